use Rattle.std.proofs.Common.{ℕ, List, ◌++◌, ap, subst, ◌∙◌}
use Rattle.tick_draft.specs.declared.Step.{Step}
use Rattle.tick_draft.specs.{new_draft, IsCountOf}
use Rattle.tick_core.specs.{with_all_served, IsPlanBehind}
use Rattle.tick_core.proofs.Made.{work_is}
use Rattle.tick_core.proofs.plan.work_of.Goals as goal

pub returns : goal.returns
returns c =
    let p = c.args.parts.now in
    let count = c.serve_clients.new.draft in
    let counts = subst (λ (n : ℕ). IsCountOf count (with_all_served p.config p.cache.held p.table.known (new_draft n))) c.begun_left.ensures (c.in_ok-allowances.ensures.draft (new_draft c.begun_left.result) c.new-count.ensures) in
    let behind = subst (λ d. IsPlanBehind p d c.in_ok-draft.draft c.in_ok-draft.done.items) (c.new-draft.ensures ∙ ap new_draft c.left.ensures) c.in_ok-draft.ensures in
    let work = work_is p count c.in_ok-draft.draft c.in_ok-draft.done.items _ c.in_ok-rest.rest.items c.in_ok-steps.steps.items counts behind c.in_ok-rest.ensures.answer c.in_ok-rest.ensures.steps (c.in_ok-steps.ensures ∙ ap (λ (l : List Step). count.steps ++ l) c.deref.ensures.value) in
    record { done_is = work.0; steps_do = work.1 }
