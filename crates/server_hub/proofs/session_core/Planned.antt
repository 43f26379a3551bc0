-- The bounds on what a tick's plan answers.
use Rattle.std.proofs.Common.{◌≡◌, List, refl, sym, subst}
use Rattle.std.specs.Prelude.{Result, Ok, Err, IfOk, OnErr}
use Rattle.rams_model.specs.declared.{Event.Event, Event.TheVariants.Tick}
use Rattle.channel_parts.specs.declared.Parts.{Parts}
use Rattle.channel_parts.specs.Standing as parts
use Rattle.tick_core.specs.{IsPlanFor}
use Rattle.server_hub.specs.session_core.{SendsShort, IsCountable, IsCore, StandsFor, Planned, IsPlanOf}
use Rattle.server_hub.specs.session_core.Seen.{Seen}
use Rattle.server_hub.proofs.session_core.Short.{sends_short}
use Rattle.server_hub.proofs.session_core.Counting.{tick_countable}

pub record IsBounded (plan : Planned) : Type 0 where
  pub few : IsCountable plan.answer
  pub short : SendsShort plan.answer

pub plan_bounded : (p : Parts) (events : List Event) → parts.StandsFor p events → (plan : Planned) → IsPlanFor p events plan → IsBounded plan
plan_bounded p events st plan is = record {
  few = subst IsCountable (sym is.answer_is) (tick_countable p.config events st.lawful);
  short = subst SendsShort (sym is.answer_is) (sends_short p.config events Tick);
}

abbrev seen : Parts → Seen
seen p = record { settings = p.config; parts = p }

pub of_seen : (p : Parts) (v : Seen) (core : IsCore p) → seen p ≡ v → (events : List Event) → StandsFor v events → parts.StandsFor p events
of_seen p v core is events stands = (subst (λ (w : Seen). StandsFor w events) (sym is) stands).parts_stand

-- the plan of a core is for the events that stand behind it
pub of_core : (p : Parts) (v : Seen) (core : IsCore p) → seen p ≡ v → (plan : Planned) → IsPlanOf v plan → IsPlanFor p core.events plan
of_core p v core is plan planned = (subst (λ (w : Seen). IsPlanOf w plan) (sym is) planned).for_all core.events (record { settings_are = refl; parts_stand = core.stands })

pub core_bounded : (p : Parts) (v : Seen) → IsCore p → seen p ≡ v → (plan : Planned) → IsPlanOf v plan → IsBounded plan
core_bounded p v core is plan planned = plan_bounded p core.events core.stands plan (of_core p v core is plan planned)

-- where an event was answered its parts stand for it too, and else they are as they were
pub goes_on : {A E : Type 0} (r : Result A E) (Q : A → Type 0) (old new : Parts) (more : List Event) → IsCore old → IfOk r (λ a. Q a × parts.StandsFor new more) → OnErr r (new ≡ old) → IsCore new
goes_on (Ok a) Q old new more core stands same = record { events = more; stands = stands.1 }
goes_on (Err e) Q old new more core stands same = subst IsCore (sym same) core
