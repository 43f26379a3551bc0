-- A book that takes an event replays with it, and has one call more of a list.
use Rattle.std.proofs.Common.{◌≡◌, ℕ, List, [], ◌∷◌, ◌++◌, refl, ap, sym, subst, ◌∙◌, append_assoc}
use Rattle.std.proofs.lemmas.Bool.{eq-eqb}
use Rattle.std.proofs.lemmas.List.{map-append}
use Rattle.std.proofs.lemmas.List.Elements.{filter-append}
use Rattle.rams_model.specs.declared.Event.{Event}
use Rattle.rams_model.specs.Service.{Settings, Answered}
use Rattle.server_hub.specs.session_core.{StandsFor}
use Rattle.server_hub.specs.session_core.Seen.{Seen}
use Rattle.channel_book.specs.declared.entry.Entry.{Entry}
use Rattle.channel_book.specs.{IsLegal, events_behind, entry, is_of, calls_by, Replays, IsTwice, HasTaken}
use Rattle.channel_book.proofs.Histories.{events_snoc, legal_snoc}

pub step_replays : (old new : Seen) (entries : List Entry) (list : ℕ) (event : Event) (kept given : Answered) → Replays old entries
    → IsTwice old.settings (events_behind [] entries) event kept given → StandsFor new (event ∷ events_behind [] entries) → new.settings ≡ old.settings
    → Replays new (entries ++ entry list event kept ∷ [])
step_replays old new entries list event kept given r twice stands settings = record {
  stands = subst (StandsFor new) (sym (events_snoc [] entries (entry list event kept))) stands;
  legal = subst (λ (s : Settings). IsLegal s (entries ++ entry list event kept ∷ [])) (sym settings) (legal_snoc old.settings [] entries (entry list event kept) r.legal (twice.1 ∙ twice.0));
}

own_call : (list : ℕ) (event : Event) (a : Answered) → calls_by list (entry list event a ∷ []) ≡ entry list event a ∷ []
own_call list event a = rw (eq-eqb list list refl) refl

-- one call more
pub takes_on : (list : ℕ) (events : List Event) (old : List Entry) (answers : List Answered) (middle : List Entry) (event : Event) (a : Answered) (new : List Entry) → HasTaken list events old answers middle
    → new ≡ middle ++ entry list event a ∷ [] → HasTaken list (events ++ event ∷ []) old (answers ++ a ∷ []) new
takes_on list events old answers middle event a new t is =
    let e = entry list event a in record {
      made = t.made ++ e ∷ [];
      calls = record {
        own = filter-append (is_of list) t.made (e ∷ []) ∙ (ap (λ (l : List Entry). l ++ calls_by list (e ∷ [])) t.calls.own ∙ ap (λ (l : List Entry). t.made ++ l) (own_call list event a));
        events_are = map-append (λ (x : Entry). x.event) t.made (e ∷ []) ∙ ap (λ (l : List Event). l ++ event ∷ []) t.calls.events_are;
        answers_are = map-append (λ (x : Entry). x.answer) t.made (e ∷ []) ∙ ap (λ (l : List Answered). l ++ a ∷ []) t.calls.answers_are;
      };
      history = is ∙ (ap (λ (l : List Entry). l ++ e ∷ []) t.history ∙ append_assoc old t.made (e ∷ []));
    }
