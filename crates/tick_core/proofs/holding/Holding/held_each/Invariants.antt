use Rattle.std.proofs.Common.{◌≡◌, take}
use Rattle.tick_core.specs.{AreHeld}
use Rattle.tick_core.proofs.holding.Holding.held_each.Given as goal

-- so many were looked at, and all of them are held
abbrev pub invariant-loop-wanted : goal.invariant-loop-wanted
invariant-loop-wanted l = record {
  count : l.count ≡ l.wanted-index;
  held : AreHeld l.self (take l.wanted-index l.pending);
}
