-- The next line and its turn.
use Rattle.std.proofs.Common.{◌≡◌, ℕ, ◌+◌, ◌<◌, List, [], ◌∷◌, length, take, Option, None, Some, MatchOption, refl, sym, ap, ◌∙◌, subst}
use Rattle.line_io.specs.{IsCutOff, TakesNext}
use Rattle.line_io.specs.declared.Next.TheVariants.{Line, Long, End}
use Rattle.rams_model.specs.declared.{LineFault.TheVariants.Order, Status.Status, Status.TheVariants.BadTrace}
use Rattle.rams_model.specs.Texts.{lines_of}
use Rattle.trace_loop.specs.trace_book.trace_serving.{Serving, Stage, Turn, Outcome, goes_on, ends, refused, after_turn, turn, text_from}
use Rattle.trace_loop.specs.{IfBothTold, IsFirstTurn, StandsSomewhere, Took}
use Rattle.trace_loop.proofs.LongLines.{turn_by_front, long_ends}

-- either case of a match on an option
in_none : {T : Type 0} (o : Option T) (A : Type 0) (B : T → Type 0) → o ≡ None → A → MatchOption o A B
in_none None A B e a = a
in_none (Some x) A B e a = cc

in_some : {T : Type 0} (o : Option T) (x : T) (A : Type 0) (B : T → Type 0) → o ≡ Some x → B x → MatchOption o A B
in_some None x A B e b = cc
in_some {T} (Some y) x A B e b =
    let same : x ≡ y = cc in
    subst B same b

-- where a turn goes on, what stands behind it stands for some stage
pub goes_somewhere : {State : Type 0} (was : Turn State) (at : Stage State → Type 0) (how : Option Status) (said : List ℕ) → Took was at how said → how ≡ None → StandsSomewhere at
goes_somewhere {State} (goes_on later bytes) at how said took none = (later, took.0)
goes_somewhere {State} (ends o) at how said took none = absurd cc

module _ {State Event : Type 0} (s : Serving State Event) where
  module _ (stage : Stage State) (number : ℕ) (xs : List ℕ) (at : Stage State → Type 0) (how : Option Status) (said rest : List ℕ) where
    -- a turn that ends the trace
    took_last : (o : Outcome) → text_from s stage number (lines_of xs) ≡ o → Took (ends o) at how said → IsFirstTurn s stage number xs at how said rest
    took_last o e took = in_some how o.status _ _ took.0 (ap (λ (x : Outcome). x.status) e, ap (λ (x : Outcome). x.text) e ∙ sym took.1)

    -- the turn of the first line
    took_first : (line : List ℕ) (was : Turn State) → turn s stage number line ≡ was → lines_of xs ≡ line ∷ lines_of rest → IsCutOff xs rest line
        → Took was at how said → IsFirstTurn s stage number xs at how said rest
    unfolding text_from
    took_first line (goes_on later bytes) is e cut took =
        in_none how _ _ took.1
        (record { line = line; cut = cut; lines = e; later = later; does = is ∙ ap (goes_on later) (sym took.2); stands = took.0 })
    took_first line (ends o) is e cut took =
        took_last o (ap (text_from s stage number) e ∙ ap (λ (was : Turn State). after_turn was (λ later. text_from s later (number + 1) (lines_of rest))) is) took

    -- the three ways in which the next line comes
    line_is_first : (line : List ℕ) → lines_of xs ≡ line ∷ lines_of rest → IsCutOff xs rest line → Took (turn s stage number line) at how said
        → IsFirstTurn s stage number xs at how said rest
    line_is_first line e cut took = took_first line (turn s stage number line) refl e cut took

    long_is_first : (first line : List ℕ) (more : List (List ℕ)) → lines_of xs ≡ first ∷ more → 4096 < length first → line ≡ take 4097 first → Took (turn s stage number line) at how said
        → IsFirstTurn s stage number xs at how said rest
    unfolding text_from
    long_is_first first line more e long front took =
        let last = long_ends s stage number first long in
        let same : turn s stage number line ≡ ends last.0 = ap (turn s stage number) front ∙ sym (turn_by_front s stage number first long) ∙ last.1 in
        let fails = ap (λ (was : Turn State). after_turn was (λ later. text_from s later (number + 1) more)) last.1 in
        took_last last.0 (ap (text_from s stage number) e ∙ fails) (subst (λ (was : Turn State). Took was at how said) same took)

  end_is_first : (stage : Stage State) (number : ℕ) (xs rest : List ℕ) (at : Stage State → Type 0) → lines_of xs ≡ []
      → IsFirstTurn s stage number xs at (Some BadTrace) (refused number Order).text rest
  unfolding text_from
  end_is_first stage number xs rest at e =
      let o = ap (text_from s stage number) e in
      (ap (λ (x : Outcome). x.status) o, ap (λ (x : Outcome). x.text) o)

  -- the same, where what is left is told
  pub line_is_told : (left leaves : Option (List ℕ)) (line : List ℕ) (stage : Stage State) (number : ℕ) (at : Stage State → Type 0) (how : Option Status) (said : List ℕ) → TakesNext left leaves line Line
      → Took (turn s stage number line) at how said → IfBothTold left leaves (λ xs ys. IsFirstTurn s stage number xs at how said ys)
  line_is_told None leaves line stage number at how said next took = tt
  line_is_told (Some xs) None line stage number at how said next took = next
  line_is_told (Some xs) (Some ys) line stage number at how said next took = line_is_first stage number xs at how said ys line next.0 next.2 took

  pub long_is_told : (left leaves : Option (List ℕ)) (line : List ℕ) (stage : Stage State) (number : ℕ) (at : Stage State → Type 0) (how : Option Status) (said : List ℕ) → TakesNext left leaves line Long
      → Took (turn s stage number line) at how said → IfBothTold left leaves (λ xs ys. IsFirstTurn s stage number xs at how said ys)
  long_is_told None leaves line stage number at how said next took = tt
  long_is_told (Some xs) None line stage number at how said next took = next
  long_is_told (Some xs) (Some ys) line stage number at how said next took =
      long_is_first stage number xs at how said ys next.0 line next.1 next.2 next.3 next.4 took

  pub end_is_told : (left leaves : Option (List ℕ)) (line : List ℕ) (stage : Stage State) (number : ℕ) (at : Stage State → Type 0) → TakesNext left leaves line End
      → IfBothTold left leaves (λ xs ys. IsFirstTurn s stage number xs at (Some BadTrace) (refused number Order).text ys)
  end_is_told None leaves line stage number at next = tt
  end_is_told (Some xs) None line stage number at next = next
  end_is_told (Some xs) (Some ys) line stage number at next = end_is_first stage number xs ys at next
