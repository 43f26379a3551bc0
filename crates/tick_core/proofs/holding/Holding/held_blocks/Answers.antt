use Rattle.std.proofs.Common.{◌-◌, ◌+◌, arith}
use Rattle.tick_core.proofs.Spent.{held_more}
use Rattle.tick_core.proofs.holding.Holding.held_blocks.Goals as goal

pub loop-start-preserved : goal.loop-start-preserved
loop-start-preserved c =
    let i = c.loop-start.start in
    record {
      within = omega (arith, c.loop-start-test.true, c.loop-start.invariant.within);
      held = held_more c.args.self.now c.args.pending.now i (i + 8 - i) (i + 8) (omega arith) c.loop-start.invariant.held (c.has_each.ensures c.if-not-has_each.false);
    }
