use Rattle.std.proofs.Common.{◌≡◌, drop}
use Rattle.tick_draft.specs.{committing, with_all_steps, MayDoAll}
use Rattle.tick_draft.proofs.commit.commit_steps.Given as goal

-- The steps that are left may be done, and lead to the same end.
abbrev pub invariant-loop-step : goal.invariant-loop-step
invariant-loop-step l = record {
  may : MayDoAll l.depth (drop l.step-index l.steps) (committing l.table l.budget);
  end : with_all_steps l.depth (drop l.step-index l.steps) (committing l.table l.budget) ≡ with_all_steps l.depth l.steps (committing l.fn.table l.fn.budget);
}
