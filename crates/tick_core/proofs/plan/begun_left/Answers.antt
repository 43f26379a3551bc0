use Rattle.std.proofs.Common.{ap, ◌∙◌}
use Rattle.reckoning.specs.link_budget.Amounts.{Amounts}
use Rattle.tick_core.proofs.plan.begun_left.Goals as goal

pub returns : goal.returns
returns c = c.left.ensures.value ∙ ap (λ (x : Amounts). x.left) c.open_tick.ensures
