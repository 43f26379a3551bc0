-- What a tick does, planned before any of it is done.
use Rattle.std.specs.Prelude.{◌≡◌, ℕ, ◌+◌, min, Bool, List, [], map}
use Rattle.std.specs.List.{list_any}
use Rattle.rams_model.specs.declared.{Event.Event, Note.Note, Event.TheVariants.Tick, Note.TheVariants.Repair, Note.TheVariants.Gone}
use Rattle.rams_model.specs.Service.{Answered, answered, Wanted, is_wanted, pending, answer, history_of}
use Rattle.channel_parts.specs.declared.Parts.{Parts}
use Rattle.tick_draft.specs.Drafts.{Drafted, new_draft}
use Rattle.tick_core.specs.Runs.{allowances_of, with_all_served}
use Rattle.tick_core.specs.Repairs.{Repaired, with_all_wanted}
use Rattle.tick_core.specs.Forgetting.{with_all_forgotten}
use Rattle.tick_draft.specs.InStep.{AreStepsOf}
use Rattle.tick_core.specs.declared.plan.{TickPlan.TickPlan, TickWork.TickWork}

-- what a tick may send at most, as it begins
abbrev pub begun_left : Parts → ℕ
begun_left p = p.budget.share + min p.budget.swell p.budget.left

-- the notes and orders of the runs
abbrev pub drafted_runs : Parts → Drafted
drafted_runs p = with_all_served p.config p.cache.held p.table.known (new_draft (begun_left p))

-- those of the repairs, behind these
abbrev pub repairs_behind : Parts → Drafted → Repaired
repairs_behind p d = with_all_wanted p.cache.held p.queue (record { draft = d; allowances = allowances_of p.config p.cache.held p.table.known; done = [] })

-- and then those of the clients that are forgotten
abbrev pub tick_behind : Parts → Drafted → Drafted
tick_behind p d = with_all_forgotten p.config p.queue p.table.known (repairs_behind p d).draft

-- those of the whole tick
abbrev pub drafted_tick : Parts → Drafted
drafted_tick p = tick_behind p (drafted_runs p)

-- the answer that is planned, and the flags
abbrev pub planned_answer : Parts → Answered
planned_answer p = answered (drafted_tick p).notes (drafted_tick p).orders

abbrev pub planned_flags : Parts → List Bool
planned_flags p = (repairs_behind p (drafted_runs p)).done

-- what follows the runs, and the flags
pub record IsPlanBehind (p : Parts) (old new : Drafted) (done : List Bool) : Type 0 where
  pub draft_is : new ≡ tick_behind p old
  pub done_is : done ≡ (repairs_behind p old).done

-- what is done, by what the parts keep
pub record IsWorkOf (p : Parts) (work : TickWork) : Type 0 where
  pub done_is : work.done.items ≡ planned_flags p
  pub steps_do : AreStepsOf work.steps.items (planned_answer p)

-- the plan, by what the parts keep
abbrev pub IsPlanOf : Parts → TickPlan → Type 0
IsPlanOf p plan = (plan.answer ≡ planned_answer p) × IsWorkOf p plan.work

-- the note says that the repair is over: it was sent, or its packet is gone
abbrev pub ends_wait : Wanted → Note → Bool
ends_wait w (Repair client n seq) = is_wanted client n w
ends_wait w (Gone client n) = is_wanted client n w
ends_wait w _ = Bool.false

-- one of the notes says so
abbrev pub is_over : List Note → Wanted → Bool
is_over notes w = list_any (ends_wait w) notes

-- What is done in the tick that comes after these events, by the one lawful answer to it: a flag for each pending repair, which is set exactly where one of the answer's notes ends it, and what is done for the clients.
pub record IsWorkFor (p : Parts) (events : List Event) (work : TickWork) : Type 0 where
  pub done_is : work.done.items ≡ map (is_over (answer p.config events Tick).notes) (pending (history_of p.config events))
  pub steps_do : AreStepsOf work.steps.items (answer p.config events Tick)

-- The plan of that tick: this answer, and what is done.
pub record IsPlanFor (p : Parts) (events : List Event) (plan : TickPlan) : Type 0 where
  pub answer_is : plan.answer ≡ answer p.config events Tick
  pub work_is : IsWorkFor p events plan.work
