use Rattle.std.proofs.Common.{length, take, length-append, ap, arith}
use Rattle.repair_queue.specs.{all_of}
use Rattle.repair_queue.proofs.Pieces.{all_more, all_within}
use Rattle.repair_queue.proofs.backlog.count_of_pieces.Goals as goal

pub overflow_add-count : goal.overflow_add-count
overflow_add-count c =
    omega (arith, all_within c.args.pieces.now c.loop-piece.piece-index c.piece-item.result c.loop-piece-test.true c.piece-item.is, ap length c.pending.ensures, c.requires, c.loop-piece.invariant)

pub loop-piece-preserved : goal.loop-piece-preserved
loop-piece-preserved c =
    omega (
      arith,
      c.loop-piece.invariant,
      ap length c.pending.ensures,
      ap length (all_more c.args.pieces.now c.loop-piece.piece-index c.piece-item.result c.loop-piece-test.true c.piece-item.is),
      length-append (all_of (take c.loop-piece.piece-index c.args.pieces.now)) c.piece-item.result,
    )
