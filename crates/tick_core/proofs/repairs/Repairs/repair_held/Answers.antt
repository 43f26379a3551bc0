use Rattle.std.proofs.Common.{List, ◌++◌, length, take, drop, length-append, ap, arith}
use Rattle.std.proofs.lemmas.List.{take_rest}
use Rattle.rams_model.specs.Service.{Wanted}
use Rattle.repair_queue.specs.{all_of}
use Rattle.repair_queue.proofs.Pieces.{all_split, all_within}
use Rattle.tick_core.proofs.Piecewise.{piece_turn}
use Rattle.tick_core.proofs.repairs.Repairs.repair_held.Goals as goal

pub pass_rest-requires-clause-few : goal.pass_rest-requires-clause-few
pass_rest-requires-clause-few c =
    let ps = c.parts.result.0.now in
    let last = c.parts.result.1.now in
    let i = c.loop-i.i in
    omega (
      arith,
      ap (λ (l : List (List Wanted)). length (all_of l ++ last)) (take_rest ps i),
      length-append (all_of (drop i ps)) last,
      ap length (all_split ps i),
      length-append (all_of (take i ps)) (all_of (drop i ps)),
      length-append (all_of ps) last,
      ap length c.parts.ensures.value,
      c.parts.ensures.limits.in_all,
    )

pub repair_some-requires : goal.repair_some-requires
repair_some-requires c =
    let ps = c.parts.result.0.now in
    record {
      few = omega (
        arith,
        ap length c.pending.ensures,
        all_within ps c.loop-i.i c.index-pieces-i.result c.loop-i-test.true c.index-pieces-i.is,
        length-append (all_of ps) c.parts.result.1.now,
        ap length c.parts.ensures.value,
        c.parts.ensures.limits.in_all,
      );
    }

pub loop-i-preserved : goal.loop-i-preserved
loop-i-preserved c =
    piece_turn c.args.holding.now c.parts.result.0.now c.loop-i.i c.index-pieces-i.result c.pending.result.now c.parts.result.1.now c.loop-i.self c.repair_some.new.self _
    c.loop-i-test.true c.index-pieces-i.is c.pending.ensures c.in_ok-repair_some.ensures c.loop-i.invariant
