-- Turns that end a trace, and what is read of a trace whose first line is one of them.
use Rattle.std.proofs.Common.{◌≡◌, ℕ, ◌+◌, ◌<◌, List, [], ◌∷◌, length, Option, None, Some, Err, sym, ap, ◌∙◌}
use Rattle.line_io.specs.{TakesNext}
use Rattle.line_io.specs.declared.Next.TheVariants.{End}
use Rattle.rams_model.specs.declared.{LineFault.LineFault, LineFault.TheVariants.Form, LineFault.TheVariants.Order}
use Rattle.rams_model.specs.declared.Status.TheVariants.{Done, BadTrace, TooLong}
use Rattle.rams_model.specs.Texts.{judged, lines_of}
use Rattle.trace_loop.specs.trace_book.trace_serving.{Serving, Stage, Outcome, Turn, goes_on, ends, refused, turn, after_judging, after_turn, text_from, stage_after, stage_from, taken_with, taken_from}
use Rattle.trace_loop.specs.{IfBothTold}
use Rattle.trace_loop.proofs.LongLines.{judged_by}

-- ---- turns that differ

module _ {State : Type 0} where
  pub same_end : (o p : Outcome) → ◌≡◌ {A = Turn State} (ends o) (ends p) → o ≡ p
  same_end o p e = cc

  pub never_goes_on : (o : Outcome) (stage : Stage State) (text : List ℕ) → ◌≡◌ {A = Turn State} (ends o) (goes_on stage text) → ⊥
  never_goes_on o stage text e = cc

  pub never_done : (o p : Outcome) → o.status ≡ BadTrace → p.status ≡ Done → ◌≡◌ {A = Turn State} (ends o) (ends p) → ⊥
  never_done o p bad good e = differ (sym bad ∙ ap (λ (x : Outcome). x.status) (same_end o p e) ∙ good)
    where
      differ : BadTrace ≡ Done → ⊥
      differ h = cc

  pub never_long : (o p : Outcome) → o.status ≡ BadTrace → p.status ≡ TooLong → ◌≡◌ {A = Turn State} (ends o) (ends p) → ⊥
  never_long o p bad long e = differ (sym bad ∙ ap (λ (x : Outcome). x.status) (same_end o p e) ∙ long)
    where
      differ : BadTrace ≡ TooLong → ⊥
      differ h = cc

module _ {State Event : Type 0} (s : Serving State Event) where
  -- ---- lines that are refused

  pub refused_turn : (stage : Stage State) (number : ℕ) (bytes : List ℕ) (fault : LineFault) → judged stage.reached bytes ≡ Err fault → turn s stage number bytes ≡ ends (refused number fault)
  unfolding turn
  refused_turn stage number bytes fault h = ap (after_judging s stage number) h

  pub long_refused : (stage : Stage State) (number : ℕ) (bytes : List ℕ) → 4096 < length bytes → turn s stage number bytes ≡ ends (refused number Form)
  long_refused stage number bytes long = refused_turn stage number bytes Form (judged_by stage.reached bytes long)

  no_line : (stage : Stage State) (number : ℕ) (lines : List (List ℕ)) → lines ≡ [] → text_from s stage number lines ≡ refused number Order
  unfolding text_from
  no_line stage number lines e = ap (text_from s stage number) e

  -- the same, where what is left is told
  pub end_is_told : (left leaves : Option (List ℕ)) (line : List ℕ) (stage : Stage State) (number : ℕ) → TakesNext left leaves line End
      → IfBothTold left leaves (λ xs ys. text_from s stage number (lines_of xs) ≡ refused number Order)
  end_is_told None leaves line stage number next = tt
  end_is_told (Some xs) None line stage number next = next
  end_is_told (Some xs) (Some ys) line stage number next = no_line stage number (lines_of xs) next

  -- ---- the first line ends the trace

  module _ (stage : Stage State) (number : ℕ) (lines : List (List ℕ)) (line : List ℕ) (rest : List (List ℕ)) (o : Outcome) (first : lines ≡ line ∷ rest) (was : turn s stage number line ≡ ends o) where
    pub text_ends : text_from s stage number lines ≡ o
    unfolding text_from
    text_ends = ap (text_from s stage number) first ∙ ap (λ (t : Turn State). after_turn t (λ later. text_from s later (number + 1) rest)) was

    pub stage_stays : stage_from s stage number lines ≡ stage
    unfolding stage_from
    stage_stays = ap (stage_from s stage number) first ∙ ap (λ (t : Turn State). stage_after stage t (λ later. stage_from s later (number + 1) rest)) was

    pub takes_none : taken_from s stage number lines ≡ []
    unfolding taken_from
    takes_none = ap (taken_from s stage number) first ∙ ap (λ (t : Turn State). taken_with line t (λ later. taken_from s later (number + 1) rest)) was

  -- ---- the first line goes on

  module _ (stage later : Stage State) (number : ℕ) (lines : List (List ℕ)) (line text : List ℕ) (rest : List (List ℕ)) (first : lines ≡ line ∷ rest) (was : turn s stage number line ≡ goes_on later text) where
    pub text_goes_on : text_from s stage number lines ≡ after_turn (goes_on later text) (λ next. text_from s next (number + 1) rest)
    unfolding text_from
    text_goes_on = ap (text_from s stage number) first ∙ ap (λ (t : Turn State). after_turn t (λ next. text_from s next (number + 1) rest)) was

    pub stage_goes_on : stage_from s stage number lines ≡ stage_from s later (number + 1) rest
    unfolding stage_from
    stage_goes_on = ap (stage_from s stage number) first ∙ ap (λ (t : Turn State). stage_after stage t (λ next. stage_from s next (number + 1) rest)) was

    pub takes_line : taken_from s stage number lines ≡ line ∷ taken_from s later (number + 1) rest
    unfolding taken_from
    takes_line = ap (taken_from s stage number) first ∙ ap (λ (t : Turn State). taken_with line t (λ next. taken_from s next (number + 1) rest)) was
