use Rattle.std.proofs.Common.{◌≢◌, ◌-◌, ◌≤◌, All, length, take}
use Rattle.server_hub.proofs.places.passed.Given as goal

-- it is none of those that were passed
abbrev pub invariant-loop-from : goal.invariant-loop-from
invariant-loop-from l = record {
  within : l.from ≤ length l.ids;
  none : All (λ k. k ≢ l.id) (take l.from l.ids);
}

abbrev pub decreases-loop-from : goal.decreases-loop-from
decreases-loop-from l = length l.ids - l.from
