-- A tick of which only the steps are kept.
use Rattle.std.specs.Prelude.{◌≡◌, ℕ, List}
use Rattle.tick_draft.specs.declared.step.Step.{Step}
use Rattle.tick_draft.specs.Drafts.{Drafted}
use Rattle.tick_draft.specs.InStep.{AreInStep}

-- the steps so far, and what the channel's budget has left
pub record Counted : Type 0 where
  pub steps : List Step
  pub left : ℕ

-- It stands for this draft: as much is left, and the steps do what the notes of the draft say.
pub record IsCountOf (c : Counted) (d : Drafted) : Type 0 where
  pub left_is : c.left ≡ d.left
  pub in_step : AreInStep c.steps d.notes d.orders
