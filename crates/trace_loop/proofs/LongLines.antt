-- A line that is too long does what its front does.
use Rattle.std.proofs.Common.{◌≡◌, ℕ, ◌<◌, List, length, take, Err, refl, sym, ap, ◌∙◌, arith, length-take}
use Rattle.std.proofs.lemmas.Bool.{lt-ltb}
use Rattle.rams_model.specs.declared.LineFault.TheVariants.{Form}
use Rattle.rams_model.specs.Texts.{Reached, judged}
use Rattle.trace_loop.specs.trace_book.trace_serving.{Serving, Stage, Outcome, ends, refused, after_judging, turn}

-- a line that is too long has no form
pub judged_by : (r : Reached) (bytes : List ℕ) → 4096 < length bytes → judged r bytes ≡ Err Form
unfolding judged
judged_by r bytes long = rw (lt-ltb 4096 (length bytes) long) refl

module _ {State Event : Type 0} (s : Serving State Event) where
  pub turn_by_front : (stage : Stage State) (number : ℕ) (bytes : List ℕ) → 4096 < length bytes → turn s stage number bytes ≡ turn s stage number (take 4097 bytes)
  unfolding turn
  turn_by_front stage number bytes long =
      let short : 4096 < length (take 4097 bytes) = omega (arith, length-take 4097 bytes) in
      ap (after_judging s stage number) (judged_by stage.reached bytes long ∙ sym (judged_by stage.reached (take 4097 bytes) short))

  -- it is refused
  pub long_refused : (stage : Stage State) (number : ℕ) (bytes : List ℕ) → 4096 < length bytes → turn s stage number bytes ≡ ends (refused number Form)
  unfolding turn
  long_refused stage number bytes long = ap (after_judging s stage number) (judged_by stage.reached bytes long)

  -- so it ends the trace
  pub long_ends : (stage : Stage State) (number : ℕ) (bytes : List ℕ) → 4096 < length bytes → (o : Outcome) × (turn s stage number bytes ≡ ends o)
  long_ends stage number bytes long = (refused number Form, long_refused stage number bytes long)
