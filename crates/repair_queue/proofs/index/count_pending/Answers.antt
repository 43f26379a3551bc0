use Rattle.std.proofs.Common.{length, take, drop, length-append, ap, arith}
use Rattle.repair_queue.specs.{all_of, is_of, count_of}
use Rattle.repair_queue.proofs.Indexed.{filter_append}
use Rattle.repair_queue.proofs.Pending.{length-filter-le}
use Rattle.repair_queue.proofs.Pieces.{all_more, all_split, all_within}
use Rattle.repair_queue.proofs.index.count_pending.Goals as goal

pub count_among-count-requires : goal.count_among-count-requires
count_among-count-requires c =
    let ps = c.parts.result.0.now in
    omega (arith, all_within ps c.loop-piece.piece-index c.piece-item.result c.loop-piece-test.true c.piece-item.is, ap length c.pending.ensures, length-append (all_of ps) c.parts.result.1.now, ap length c.parts.ensures, c.requires)

pub overflow_add-count : goal.overflow_add-count
overflow_add-count c =
    let ps = c.parts.result.0.now in
    let f = is_of c.args.client in
    omega (
      arith,
      c.loop-piece.invariant,
      c.count_among-count.ensures,
      length-filter-le f (all_of (take c.loop-piece.piece-index ps)),
      length-filter-le f c.pending.result.now,
      all_within ps c.loop-piece.piece-index c.piece-item.result c.loop-piece-test.true c.piece-item.is,
      ap length c.pending.ensures,
      length-append (all_of ps) c.parts.result.1.now,
      ap length c.parts.ensures,
      c.requires,
    )

pub loop-piece-preserved : goal.loop-piece-preserved
loop-piece-preserved c =
    let ps = c.parts.result.0.now in
    let i = c.loop-piece.piece-index in
    omega (
      arith,
      c.loop-piece.invariant,
      c.count_among-count.ensures,
      ap (count_of c.args.client) c.pending.ensures,
      ap (count_of c.args.client) (all_more ps i c.piece-item.result c.loop-piece-test.true c.piece-item.is),
      filter_append (is_of c.args.client) (all_of (take i ps)) c.piece-item.result,
    )

pub overflow_add-result : goal.overflow_add-result
overflow_add-result c =
    let ps = c.parts.result.0.now in
    let last = c.parts.result.1.now in
    let i = c.loop-piece.piece-index in
    let f = is_of c.args.client in
    omega (
      arith,
      c.loop-piece.invariant,
      c.count_among.ensures,
      length-filter-le f (all_of (take i ps)),
      length-filter-le f last,
      ap length (all_split ps i),
      length-append (all_of (take i ps)) (all_of (drop i ps)),
      length-append (all_of ps) last,
      ap length c.parts.ensures,
      c.requires,
    )
