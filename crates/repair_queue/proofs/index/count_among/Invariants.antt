use Rattle.std.proofs.Common.{◌≡◌, take}
use Rattle.repair_queue.specs.{count_of}
use Rattle.repair_queue.proofs.index.count_among.Given as goal

-- those so far are counted
abbrev pub invariant-loop-w : goal.invariant-loop-w
invariant-loop-w l = l.count ≡ count_of l.client (take l.w-index l.pending)
