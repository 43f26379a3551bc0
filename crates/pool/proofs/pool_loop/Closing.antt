-- How a trace for a pool ends, by what was read of it.
use Rattle.std.proofs.Common.{◌≡◌, ℕ, List, Option, Some, None, Result, Ok, Err, IfErr, sym, subst}
use Rattle.std.specs.Prelude.{◌⊎◌, IfOk, OnOk}
use Rattle.rams_model.specs.declared.{Status.Status, Status.TheVariants.Done}
use Rattle.trace_loop.specs.declared.Stop.{Stop}
use Rattle.trace_loop.specs.{IfTold, OnlyMemoryStops}
use Rattle.pool.specs.declared.pool_loop.dealing.Dealt.{Dealt}
use Rattle.pool.specs.pool_loop.{IsReadOf, HasEnded, HasStopped, HasRoomFor}

module _ (rate : ℕ) (held holds : Option (List ℕ)) (steady : ℕ → Type 0) (d : Dealt) where
  pub lawful_text : (left : Option (List ℕ)) (result : Result Status Stop) → IfTold left (λ xs. IsReadOf xs d) → IfOk result (λ st. st ≡ Done)
      → ((xs : List ℕ) → IsReadOf xs d → OnOk result (HasEnded rate xs held holds Done)) → IfOk result (λ st. IfTold left (λ xs. HasEnded rate xs held holds st))
  lawful_text None (Ok st) read done text = tt
  lawful_text (Some xs) (Ok st) read done text = subst (λ (s : Status). HasEnded rate xs held holds s) (sym done) (text xs read)
  lawful_text left (Err stop) read done text = tt

  pub lawful_front : (left : Option (List ℕ)) (result : Result Status Stop) → IfTold left (λ xs. IsReadOf xs d)
      → ((xs : List ℕ) → IsReadOf xs d → IfErr result (λ _. (holds ≡ held) ⊎ HasStopped rate xs held holds)) → IfErr result (λ _. IfTold left (λ xs. (holds ≡ held) ⊎ HasStopped rate xs held holds))
  lawful_front left (Ok st) read front = tt
  lawful_front None (Err stop) read front = tt
  lawful_front (Some xs) (Err stop) read front = front xs read

  pub lawful_steady : (left : Option (List ℕ)) (result : Result Status Stop) → IfTold left (λ xs. IsReadOf xs d)
      → ((xs : List ℕ) → IsReadOf xs d → HasRoomFor rate xs steady → OnlyMemoryStops result (Unit {0})) → IfTold left (λ xs. HasRoomFor rate xs steady → OnlyMemoryStops result (Unit {0}))
  lawful_steady None result read calm = tt
  lawful_steady (Some xs) result read calm = calm xs read
