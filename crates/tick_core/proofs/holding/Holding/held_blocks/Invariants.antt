use Rattle.std.proofs.Common.{◌-◌, ◌≤◌, length, take}
use Rattle.tick_core.specs.{AreHeld}
use Rattle.tick_core.proofs.holding.Holding.held_blocks.Given as goal

-- those so far are held
abbrev pub invariant-loop-start : goal.invariant-loop-start
invariant-loop-start l = record {
  within : l.start ≤ length l.pending;
  held : AreHeld l.self (take l.start l.pending);
}

abbrev pub decreases-loop-start : goal.decreases-loop-start
decreases-loop-start l = length l.pending - l.start
