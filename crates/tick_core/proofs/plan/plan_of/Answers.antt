use Rattle.std.proofs.Common.{ℕ, ap, ◌∙◌}
use Rattle.tick_draft.specs.{new_draft}
use Rattle.tick_core.specs.{with_all_served}
use Rattle.tick_core.proofs.Made.{plan_is}
use Rattle.tick_core.proofs.plan.plan_of.Goals as goal

pub returns : goal.returns
returns c =
    let p = c.args.parts.now in
    let runs = c.in_ok-allowances.ensures.draft (new_draft c.begun_left.result) c.new-draft.ensures ∙ ap (λ (n : ℕ). with_all_served p.config p.cache.held p.table.known (new_draft n)) c.begun_left.ensures in
    let plan = plan_is p c.serve_clients.new.draft c.in_ok-draft.draft c.in_ok-draft.done.items c.in_ok-answer.answer c.in_ok-answer.steps.items runs c.in_ok-draft.ensures c.in_ok-answer.ensures.answer c.in_ok-answer.ensures.steps in
    (plan.0, record { done_is = plan.1; steps_do = plan.2 })
