use Rattle.std.proofs.Common.{take}
use Rattle.repair_queue.specs.{AreNoLess}
use Rattle.repair_queue.proofs.piece.least_of.Given as goal

-- none so far has a lesser number
abbrev pub invariant-loop-wanted : goal.invariant-loop-wanted
invariant-loop-wanted l = AreNoLess l.least (take l.wanted-index l.pending)
