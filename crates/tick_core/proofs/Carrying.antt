-- The steps of a plan are done, one after another.
use Rattle.std.proofs.Common.{◌≡◌, ℕ, List, refl, ap, sym, ◌∙◌, subst}
use Rattle.rams_model.specs.Service.{wire_sizes, answer}
use Rattle.rams_model.specs.declared.{Event.Event, Event.TheVariants.Tick}
use Rattle.client_table.specs.Clients.{Clients}
use Rattle.reckoning.specs.link_budget.Amounts.{Amounts}
use Rattle.channel_parts.specs.declared.Parts.{Parts}
use Rattle.channel_parts.specs.{StandsFor}
use Rattle.tick_draft.specs.declared.Step.{Step}
use Rattle.tick_core.specs.declared.plan.{TickPlan.TickPlan, TickWork.TickWork}
use Rattle.tick_draft.specs.{entry_begun, AreAllChanged, AreStepsOf, committing, with_all_committed, with_all_steps, MayDoAll}
use Rattle.tick_core.specs.{begun_left, IsPlanFor, IsWorkFor}
use Rattle.tick_draft.specs.Committed.{Committed}
use Rattle.tick_core.proofs.Closing.{may_carry_out}
use Rattle.tick_core.proofs.Sizing.{lists_are_sized, may_as_named, sized_as_named}

-- the steps of a plan do what its own notes say
steps_of : (p : Parts) (events : List Event) (plan : TickPlan) → IsPlanFor p events plan → AreStepsOf plan.work.steps.items plan.answer
steps_of p events plan is = subst (AreStepsOf plan.work.steps.items) (sym is.answer_is) is.work_is.steps_do

-- what is done, and the one lawful answer
abbrev pub plan_with : Parts → List Event → TickWork → TickPlan
plan_with p events work = record { answer = answer p.config events Tick; work = work }

pub as_plan : (p : Parts) (events : List Event) (work : TickWork) → IsWorkFor p events work → IsPlanFor p events (plan_with p events work)
as_plan p events work is = record { answer_is = refl; work_is = is }

pub steps_carry : (p : Parts) (events : List Event) (plan : TickPlan) (depth : ℕ) (steps : List Step) (c : Committed) → StandsFor p events → IsPlanFor p events plan → depth ≡ p.config.channel.depth → steps ≡ plan.work.steps.items
    → with_all_steps depth steps c ≡ with_all_committed p.config p.cache.held plan.answer.notes c
steps_carry p events plan depth steps c stands is depth_is steps_are =
    ap (λ (n : ℕ). with_all_steps n steps c) depth_is
    ∙ (ap (λ (l : List Step). with_all_steps p.config.channel.depth l c) steps_are
    ∙ ((steps_of p events plan is).does p.config c
    ∙ sized_as_named p.config p.cache.held plan.answer.notes (wire_sizes plan.answer.orders) c (lists_are_sized p events plan plan.answer.notes plan.answer.orders stands is refl refl)))

pub may_do_steps : (p : Parts) (events : List Event) (plan : TickPlan) (depth : ℕ) (steps : List Step) (table : Clients) (budget : Amounts) → StandsFor p events → IsPlanFor p events plan → depth ≡ p.config.channel.depth → steps ≡ plan.work.steps.items
    → AreAllChanged (λ _. entry_begun) p.table table → budget ≡ record p.budget { left = begun_left p } → MayDoAll depth steps (committing table budget)
may_do_steps p events plan depth steps table budget stands is depth_is steps_are change begun =
    let c = committing table budget in
    let may = may_as_named p.config p.cache.held plan.answer.notes (wire_sizes plan.answer.orders) c (lists_are_sized p events plan plan.answer.notes plan.answer.orders stands is refl refl)
    (may_carry_out p events plan plan.answer.notes table budget stands is refl change begun) in
    subst (λ (n : ℕ). MayDoAll n steps c) (sym depth_is) (subst (λ (l : List Step). MayDoAll p.config.channel.depth l c) (sym steps_are) ((steps_of p events plan is).may p.config c may))
