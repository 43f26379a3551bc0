use Rattle.std.proofs.Common.{refl}
use Rattle.tick_core.proofs.Repairing.{wanted_turn, wanted_end}
use Rattle.tick_core.proofs.repairs.Repairs.repair_some.Goals as goal

pub loop-i-preserved : goal.loop-i-preserved
loop-i-preserved c =
    wanted_turn c.args.holding.now c.args.pending.now c.args.pending.now c.loop-i.i c.index-pending-i.result c.loop-i.self c.repair.new.self _
    refl c.loop-i-test.true c.index-pending-i.is c.in_ok-repair.ensures c.loop-i.invariant

pub returns : goal.returns
returns c =
    wanted_end c.args.holding.now c.args.pending.now c.args.pending.now c.loop-i.i c.loop-i.self _
    refl c.loop-i-test.false c.loop-i.invariant
