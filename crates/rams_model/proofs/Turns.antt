-- The bursts that a tick serves, each once and in turn: what holds of a client until its turn, and what its turn makes of it, where the runs of the other clients change neither.
use Rattle.std.proofs.Common.{◌≡◌, ℕ, Bool, true, false, ◌||◌, ⊎_elim, List, [], ◌∷◌, Option, Some, None, refl, sym, ◌∙◌, subst, eqb}
use Rattle.std.specs.Prelude.{is_some}
use Rattle.std.specs.List.{list_any}
use Rattle.std.proofs.lemmas.Bool.{cases_Bool, or_parts, or_from, eqb-true, true≢false}
use Rattle.rams_model.specs.declared.{held.Held.Held, note.Note.Note}
use Rattle.rams_model.specs.declared.note.Note.TheVariants as note
use Rattle.rams_model.specs.Service.{Settings, noted, History, hold, opened, is_among, Burst, is_of, open_burst, burst_served, all_served, bursts_served}
use Rattle.rams_model.proofs.Legal.{is_of_runs}
use Rattle.rams_model.proofs.Legality.{EachOnce, opened_once}
use Rattle.rams_model.proofs.Items.{is_run_of, run_in_runs, served_puts}
use Rattle.rams_model.proofs.Induction.{through}
use Rattle.rams_model.proofs.LastAccept.{opened_open}
use Rattle.rams_model.proofs.ListFacts.{apart}

-- the notes of the runs of other clients keep it
abbrev pub IsKeptByOthers : ℕ → (History → Type 0) → Type 0
IsKeptByOthers k P = (n : Note) (packet : Option Held) (history : History) → is_of_runs n ≡ true → is_of k n ≡ false → P history → P (noted n packet ∷ history)

of_other : (j k : ℕ) (n : Note) → is_run_of j n ≡ true → eqb j k ≡ false → is_of k n ≡ false
of_other j k (note.Burst client m number) own f = subst (λ (i : ℕ). eqb i k ≡ false) (sym (eqb-true client j own)) f
of_other j k (note.End client why) own f = subst (λ (i : ℕ). eqb i k ≡ false) (sym (eqb-true client j own)) f
of_other j k n own f = absurd (true≢false (sym own))

none_same : (k : ℕ) (ks : List ℕ) → list_any (eqb k) ks ≡ false → is_among k ks ≡ false
none_same k [] e = e
none_same k (j ∷ js) e =
    let parts = or_parts (eqb k j) (list_any (eqb k) js) e in or_from (eqb j k) (is_among k js) (apart k j parts.0) (none_same k js parts.1)

pub none_open : (o : Option Burst) → is_some o ≡ false → o ≡ None
none_open None e = refl
none_open (Some b) e = absurd (true≢false e)

module _ (s : Settings) (held : List Held) (k : ℕ) (P : History → Type 0) (keeps : IsKeptByOthers k P) where
  other_served : (j : ℕ) (history : History) → eqb j k ≡ false → P history → P (burst_served s held j (open_burst s j history) history)
  other_served j history f p =
      through (is_run_of j) P (λ n packet h own q. keeps n packet h (run_in_runs j n own) (of_other j k n own f) q) history (burst_served s held j (open_burst s j history) history)
      (served_puts s held j (open_burst s j history) history) p

  others_served : (js : List ℕ) (history : History) → is_among k js ≡ false → P history → P (all_served s held js history)
  unfolding all_served
  others_served [] history out p = p
  others_served (j ∷ js) history out p =
      let parts = or_parts (eqb j k) (is_among k js) out in
      others_served js (burst_served s held j (open_burst s j history) history) parts.1 (other_served j history parts.0 p)

module _ (s : Settings) (k : ℕ) (start : History) (P Q : History → Type 0) (waits : IsKeptByOthers k P) (stays : IsKeptByOthers k Q)
    (turn : (history : History) → P history → Q (burst_served s (hold s start) k (open_burst s k history) history)) where
  served_once : (js : List ℕ) (history : History) → EachOnce eqb js → is_among k js ≡ true → P history → Q (all_served s (hold s start) js history)
  unfolding all_served
  served_once [] history once there p = absurd (true≢false (sym there))
  served_once (j ∷ js) history once there p =
      let served = burst_served s (hold s start) j (open_burst s j history) history in
      ⊎_elim
      (λ t. others_served s (hold s start) k Q stays js served (none_same k js (subst (λ (i : ℕ). list_any (eqb i) js ≡ false) (eqb-true j k t) once.0))
      (subst (λ (i : ℕ). Q (burst_served s (hold s start) i (open_burst s i history) history)) (sym (eqb-true j k t)) (turn history p)))
      (λ f. served_once js served once.1 (subst (λ (b : Bool). (b || is_among k js) ≡ true) f there) (other_served s (hold s start) k P waits j history f p))
      (cases_Bool (eqb j k))

  pub in_turn : P start → (open_burst s k start ≡ None → Q start) → Q (bursts_served s start)
  in_turn p closed =
      ⊎_elim (λ t. served_once (opened start) start (opened_once start) t p)
      (λ f. others_served s (hold s start) k Q stays (opened start) start f (closed (none_open (open_burst s k start) (sym (opened_open s k start) ∙ f))))
      (cases_Bool (is_among k (opened start)))
