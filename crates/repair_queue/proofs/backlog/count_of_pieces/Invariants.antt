use Rattle.std.proofs.Common.{◌≡◌, length, take}
use Rattle.repair_queue.specs.{all_of}
use Rattle.repair_queue.proofs.backlog.count_of_pieces.Given as goal

-- those so far are counted
abbrev pub invariant-loop-piece : goal.invariant-loop-piece
invariant-loop-piece l = l.count ≡ length (all_of (take l.piece-index l.pieces))
