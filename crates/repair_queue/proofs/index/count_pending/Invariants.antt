use Rattle.std.proofs.Common.{◌≡◌, take}
use Rattle.repair_queue.specs.{all_of, count_of}
use Rattle.repair_queue.proofs.index.count_pending.Given as goal

-- those so far are counted
abbrev pub invariant-loop-piece : goal.invariant-loop-piece
invariant-loop-piece l = l.count ≡ count_of l.client (all_of (take l.piece-index l.pieces))
