-- How a trace ends that is read to its end before anything is written, where one line is all that is written of it.
use Rattle.std.proofs.Common.{◌≡◌, ℕ, List, length, Option, Some, None, Result, Ok, Err, IfErr, sym, ap, subst, inr}
use Rattle.std.specs.Prelude.{◌⊎◌, IfOk, OnOk}
use Rattle.std.specs.Io.KnownBytes.{Appends}
use Rattle.line_io.specs.Passes.{Passes}
use Rattle.rams_model.specs.declared.Status.{Status}
use Rattle.trace_loop.specs.trace_book.trace_serving.{Serving, Outcome, served_text}
use Rattle.trace_loop.specs.declared.stop.Stop.{Stop}
use Rattle.trace_loop.specs.{IfTold, OnlyMemoryStops, HasEndedSo, HasStoppedSo, HasRoomSo}

module _ {State Event : Type 0} (s : Serving State Event) (MayWrite : List ℕ → Status → List ℕ → Type 0) (held holds : Option (List ℕ)) (steady : ℕ → Type 0) (o : Outcome) (may : (xs text : List ℕ) → text ≡ (served_text s xs).text → MayWrite xs o.status text) where
  pub line_text : (left : Option (List ℕ)) (result : Result Status Stop) → IfTold left (λ xs. served_text s xs ≡ o) → IfOk result (λ st. st ≡ o.status) → OnOk result (Appends held holds o.text)
      → IfOk result (λ st. IfTold left (λ xs. HasEndedSo s MayWrite xs held holds st))
  line_text None (Ok st) read is text = tt
  line_text (Some xs) (Ok st) read is text =
      subst (λ (st : Status). HasEndedSo s MayWrite xs held holds st) (sym is) (sym (ap (λ (x : Outcome). x.status) read), o.text, may xs o.text (sym (ap (λ (x : Outcome). x.text) read)), text)
  line_text left (Err stop) read is text = tt

  own_line : (xs : List ℕ) → served_text s xs ≡ o → MayWrite xs (served_text s xs).status o.text
  own_line xs read = subst (λ (st : Status). MayWrite xs st o.text) (sym (ap (λ (x : Outcome). x.status) read)) (may xs o.text (sym (ap (λ (x : Outcome). x.text) read)))

  pub line_front : (left : Option (List ℕ)) (result : Result Status Stop) → IfTold left (λ xs. served_text s xs ≡ o) → (rest : List ℕ) × Passes held holds o.text rest
      → IfErr result (λ _. IfTold left (λ xs. (holds ≡ held) ⊎ HasStoppedSo s MayWrite xs held holds))
  line_front left (Ok st) read front = tt
  line_front None (Err stop) read front = tt
  line_front (Some xs) (Err stop) read front = inr (o.text, front.0, own_line xs read, front.1)

  pub line_steady : (left : Option (List ℕ)) (result : Result Status Stop) → IfTold left (λ xs. served_text s xs ≡ o) → (steady (length o.text) → OnlyMemoryStops result (Unit {0}))
      → IfTold left (λ xs. HasRoomSo s MayWrite xs steady → OnlyMemoryStops result (Unit {0}))
  line_steady None result read calm = tt
  line_steady (Some xs) result read calm = λ room. calm (room o.text (own_line xs read))
