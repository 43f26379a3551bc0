use Rattle.std.proofs.Common.{take}
use Rattle.tick_core.specs.{AreHeld}
use Rattle.tick_core.proofs.holding.Holding.has_each.Given as goal

-- those so far are held
abbrev pub invariant-loop-wanted : goal.invariant-loop-wanted
invariant-loop-wanted l = AreHeld l.self (take l.wanted-index l.pending)
