use Rattle.std.proofs.Common.{◌≡◌, ◌≤◌, not, false, length, drop}
use Rattle.std.specs.List.{list_any}
use Rattle.repair_queue.proofs.flags.start_of_set.Given as goal

-- all are set from here on
abbrev pub invariant-loop-start : goal.invariant-loop-start
invariant-loop-start l = record {
  within : l.start ≤ length l.done;
  set : list_any (λ is_done. not is_done) (drop l.start l.done) ≡ false;
}

abbrev pub decreases-loop-start : goal.decreases-loop-start
decreases-loop-start l = l.start
