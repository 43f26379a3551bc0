use Rattle.std.proofs.Common.{take}
use Rattle.repair_queue.specs.{all_of, Indexes}
use Rattle.repair_queue.proofs.index.Index.rebuild.Given as goal

-- it is the index of those so far
abbrev pub invariant-loop-piece : goal.invariant-loop-piece
invariant-loop-piece l = Indexes l.self (all_of (take l.piece-index l.pieces))
