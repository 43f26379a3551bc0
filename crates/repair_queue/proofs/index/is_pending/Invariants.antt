use Rattle.std.proofs.Common.{◌≡◌, false, take}
use Rattle.std.specs.List.{list_any}
use Rattle.rams_model.specs.Service.{is_wanted}
use Rattle.repair_queue.specs.{all_of}
use Rattle.repair_queue.proofs.index.is_pending.Given as goal

-- it is among none so far
abbrev pub invariant-loop-piece : goal.invariant-loop-piece
invariant-loop-piece l = list_any (is_wanted l.client l.n) (all_of (take l.piece-index l.pieces)) ≡ false
