-- What an event makes of one core, it makes of the cores at that core's place.
use Rattle.std.proofs.Common.{◌≡◌, ℕ, ◌<◌, List, ◌∷◌, length, refl, ◌∙◌, subst, get_or}
use Rattle.std.specs.Prelude.{IfOk, Result, Ok, Err, slice_set}
use Rattle.std.proofs.lemmas.Option.{slice_get-get_or}
use Rattle.rams_model.specs.declared.Event.{Event}
use Rattle.rams_model.specs.Service.{Answered, Settings, answer}
use Rattle.server_hub.specs.session_core.Seen as cores
use Rattle.server_hub.specs.{StepsAt}

pub step_at : {E : Type 0} (e : Event) (place : ℕ) (all : List cores.Seen) (d later : cores.Seen) (r : Result Answered E) → place < length all
    → ((events : List Event) → cores.StandsFor (get_or all place d) events
    → IfOk r (λ a. (a ≡ answer (get_or all place d).settings events e) × cores.StandsFor later (e ∷ events)))
    → later.settings ≡ (get_or all place d).settings → IfOk r (StepsAt e place all (slice_set all place later))
step_at e place all d later (Ok a) within stands settings = record {
  core = get_or all place d;
  later = later;
  is_there = slice_get-get_or all place d within;
  changed = refl;
  steps = record {
    stands = λ c s.
        let k = stands c.events s.stands in
        (subst (λ (t : Settings). a ≡ answer t c.events e) s.settings k.0, record { settings = settings ∙ s.settings; stands = k.1 });
    settings = settings;
  };
}
step_at e place all d later (Err f) within stands settings = tt
