-- How a trace for threads ends, by what was read of it.
use Rattle.std.proofs.Common.{◌≡◌, ℕ, List, Option, Some, None, Result, Ok, Err, IfErr, sym, subst}
use Rattle.std.specs.Prelude.{◌⊎◌, IfOk, OnOk}
use Rattle.rams_model.specs.declared.{Status.Status, Status.TheVariants.Done}
use Rattle.trace_loop.specs.declared.Stop.{Stop}
use Rattle.trace_loop.specs.{IfTold, OnlyMemoryStops}
use Rattle.threads_loop.specs.declared.dealing.Dealt.{Dealt}
use Rattle.threads_loop.specs.{IsReadOf, HasEnded, HasStopped, HasRoomFor}

-- the trace was read to its end by as many workers
own_read : (workers : ℕ) (xs : List ℕ) (d : Dealt) → IsReadOf workers xs d → IsReadOf d.workers xs d
own_read workers xs d r = subst (λ (n : ℕ). IsReadOf n xs d) (sym r.workers_are) r

module _ (workers : ℕ) (held holds : Option (List ℕ)) (steady : ℕ → Type 0) (d : Dealt) where
  pub lawful_text : (left : Option (List ℕ)) (result : Result Status Stop) → IfTold left (λ xs. IsReadOf workers xs d) → IfOk result (λ st. st ≡ Done)
      → ((xs : List ℕ) → IsReadOf d.workers xs d → OnOk result (HasEnded d.workers xs held holds Done)) → IfOk result (λ st. IfTold left (λ xs. HasEnded workers xs held holds st))
  lawful_text None (Ok st) read done text = tt
  lawful_text (Some xs) (Ok st) read done text =
      subst (λ (s : Status). HasEnded workers xs held holds s) (sym done) (subst (λ (n : ℕ). HasEnded n xs held holds Done) read.workers_are (text xs (own_read workers xs d read)))
  lawful_text left (Err stop) read done text = tt

  pub lawful_front : (left : Option (List ℕ)) (result : Result Status Stop) → IfTold left (λ xs. IsReadOf workers xs d)
      → ((xs : List ℕ) → IsReadOf d.workers xs d → IfErr result (λ _. (holds ≡ held) ⊎ HasStopped d.workers xs held holds)) → IfErr result (λ _. IfTold left (λ xs. (holds ≡ held) ⊎ HasStopped workers xs held holds))
  lawful_front left (Ok st) read front = tt
  lawful_front None (Err stop) read front = tt
  lawful_front (Some xs) (Err stop) read front = subst (λ (n : ℕ). (holds ≡ held) ⊎ HasStopped n xs held holds) read.workers_are (front xs (own_read workers xs d read))

  pub lawful_steady : (left : Option (List ℕ)) (result : Result Status Stop) → IfTold left (λ xs. IsReadOf workers xs d)
      → ((xs : List ℕ) → IsReadOf d.workers xs d → HasRoomFor d.workers xs steady → OnlyMemoryStops result (Unit {0})) → IfTold left (λ xs. HasRoomFor workers xs steady → OnlyMemoryStops result (Unit {0}))
  lawful_steady None result read calm = tt
  lawful_steady (Some xs) result read calm = λ room. calm xs (own_read workers xs d read) (subst (λ (n : ℕ). HasRoomFor n xs steady) (sym read.workers_are) room)
