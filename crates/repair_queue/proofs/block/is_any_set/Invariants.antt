use Rattle.std.proofs.Common.{◌≡◌, take}
use Rattle.std.specs.List.{list_any}
use Rattle.repair_queue.proofs.block.is_any_set.Given as goal

-- whether one so far is set
abbrev pub invariant-loop-is_done : goal.invariant-loop-is_done
invariant-loop-is_done l = l.is_any ≡ list_any (λ is_done. is_done) (take l.is_done-index l.flags)
