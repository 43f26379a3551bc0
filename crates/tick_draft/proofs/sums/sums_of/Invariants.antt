use Rattle.std.proofs.Common.{◌≡◌, drop}
use Rattle.tick_draft.specs.{both_sums, sums_of}
use Rattle.tick_draft.proofs.sums.sums_of.Given as goal

-- With the steps that are left it comes to the same sums.
abbrev pub invariant-loop-step : goal.invariant-loop-step
invariant-loop-step l = both_sums l.sums (sums_of (drop l.step-index l.steps)) ≡ sums_of l.steps
