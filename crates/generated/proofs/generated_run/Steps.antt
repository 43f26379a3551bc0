-- A generated trace on its way through a core, event by event.
use Rattle.std.proofs.Common.{◌≡◌, ℕ, ◌+◌, ◌≤◌, List, [], ◌∷◌, ◌++◌, reverse, length, refl, sym, ap, ◌∙◌, arith, append_assoc, length-append}
use Rattle.std.proofs.lemmas.List.{reverse-append, reverse-reverse, length-reverse, length-map, append-nil}
use Rattle.rams_model.specs.declared.Event.{Event}
use Rattle.rams_model.specs.Service.{answer, book}
use Rattle.server_hub.specs.session_core.{StandsFor}
use Rattle.server_hub.specs.session_core.Seen.{Seen}
use Rattle.generated.specs.summary.{Tallied, tally_of, answers_in}
use Rattle.generated.proofs.summary.Tallying.{answers_more, length_book}
use Rattle.generated.specs.trace_gen.{Place, config, left, made}
use Rattle.generated.proofs.trace_gen.Few.{few_events}
use Rattle.generated.specs.generated_run.{IsRunning}

-- an event went from what is left to what has come
moved : (event : Event) (came rest : List Event) → reverse (event ∷ came) ++ rest ≡ reverse came ++ event ∷ rest
moved event came rest =
    ap (λ (l : List Event). l ++ rest) (reverse-append (event ∷ []) came) ∙ append_assoc (reverse came) (event ∷ []) rest

answers_none : answers_in config [] ≡ []
unfolding book
answers_none = refl

pub begins : (seed blocks : ℕ) (at : Place) (core : Seen) (tally : Tallied) → left at blocks ≡ made seed blocks → core.settings ≡ config → StandsFor core [] → tally ≡ tally_of []
    → IsRunning seed blocks 0 at core tally
begins seed blocks at core tally all settings stands told = record {
  came = [];
  all = all;
  counted = refl;
  settings = settings;
  stands = stands;
  told = told ∙ ap tally_of (sym answers_none);
}

-- One event more.
pub goes_on : (seed blocks events : ℕ) (at later : Place) (core now : Seen) (tally more : Tallied) (event : Event)
    → (r : IsRunning seed blocks events at core tally)
    → left at blocks ≡ event ∷ left later blocks
    → now.settings ≡ core.settings
    → StandsFor now (event ∷ r.came) × (more ≡ tally_of (answer core.settings r.came event ∷ answers_in config r.came))
    → IsRunning seed blocks (events + 1) later now more
goes_on seed blocks events at later core now tally more event r next settings counted = record {
  came = event ∷ r.came;
  all = moved event r.came (left later blocks) ∙ ap (λ (l : List Event). reverse r.came ++ l) (sym next) ∙ r.all;
  counted = omega (arith, r.counted);
  settings = settings ∙ r.settings;
  stands = counted.0;
  told =
      counted.1
      ∙ ap (λ s. tally_of (answer s r.came event ∷ answers_in config r.came)) r.settings
      ∙ ap tally_of (sym (answers_more config event r.came));
}

-- The answers that were counted are as many as the events.
pub as_many : (seed blocks events : ℕ) (at : Place) (core : Seen) (tally : Tallied) → IsRunning seed blocks events at core tally → tally.answers ≡ events
as_many seed blocks events at core tally r =
    ap (λ (t : Tallied). t.answers) r.told ∙ length-map (book config r.came) (λ e. e.answer) ∙ length_book config r.came ∙ sym r.counted

-- At the end all events have come.
pub ends : (seed blocks events : ℕ) (at : Place) (core : Seen) (tally : Tallied) → IsRunning seed blocks events at core tally → left at blocks ≡ []
    → (tally ≡ tally_of (answers_in config (reverse (made seed blocks)))) × (events ≡ length (made seed blocks))
ends seed blocks events at core tally r none =
    let whole : reverse r.came ≡ made seed blocks = sym (ap (λ (l : List Event). reverse r.came ++ l) none ∙ append-nil (reverse r.came)) ∙ r.all in
    let came : r.came ≡ reverse (made seed blocks) = sym (reverse-reverse r.came) ∙ ap reverse whole in
    (r.told ∙ ap (λ (es : List Event). tally_of (answers_in config es)) came, r.counted ∙ sym (length-reverse r.came) ∙ ap length whole)

-- No more come than so many blocks have.
pub is_few : (seed blocks events : ℕ) (at : Place) (core : Seen) (tally : Tallied) → IsRunning seed blocks events at core tally → blocks ≤ 50000 → events ≤ 600000
is_few seed blocks events at core tally r few =
    let both = length-append (reverse r.came) (left at blocks) in
    let came = length-reverse r.came in
    omega (arith, r.counted, both, came, ap length r.all, few_events seed blocks, few)
