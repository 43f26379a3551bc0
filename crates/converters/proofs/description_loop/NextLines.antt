-- What the next line of some bytes says, and what stands behind it.
use Rattle.std.proofs.Common.{◌≡◌, ℕ, List, [], ◌∷◌, ◌++◌, Option, None, Some, Result, Err, refl, sym, ap, ◌∙◌, subst, inl, inr}
use Rattle.std.specs.Prelude.{◌⊎◌}
use Rattle.line_io.specs.{HasNoFeed, IsCutOff, TakesNext}
use Rattle.line_io.specs.declared.Next.TheVariants.{Line, Long, End}
use Rattle.rams_model.specs.declared.{LineFault.LineFault, LineFault.TheVariants.Form, LineFault.TheVariants.Order}
use Rattle.rams_model.specs.Texts.{TraceLine, Reached, judged, lines_of}
use Rattle.trace_lines.specs.declared.Line as code
use Rattle.trace_lines.specs.declared.Line.TheVariants as line
use Rattle.trace_lines.specs.{shown}
use Rattle.trace_text.specs.{IsOther}
use Rattle.trace_loop.specs.{IfBothTold}
use Rattle.trace_loop.proofs.LongLines.{judged_by}
use Rattle.converters.specs.declared.description_loop.said.Said.{Said}
use Rattle.converters.specs.declared.description_loop.said.Said.TheVariants as said
use Rattle.converters.specs.description_loop.{behind_line, first_judged, next_judged, IsOfNoHead, SaysOf, Says, IsBehind, IsNext}

behind_cut : (front ys : List ℕ) → HasNoFeed front → behind_line (front ++ 10 ∷ ys) ≡ ys
unfolding behind_line
behind_cut [] ys clean = refl
behind_cut (b ∷ front) ys clean = rw clean.0 (behind_cut front ys clean.1)

behind_all : (front : List ℕ) → HasNoFeed front → behind_line front ≡ []
unfolding behind_line
behind_all [] clean = refl
behind_all (b ∷ front) clean = rw clean.0 (behind_all front clean.1)

-- what is left behind a line that was cut off
behind_is : (xs ys front : List ℕ) → IsCutOff xs ys front → ys ≡ behind_line xs
behind_is xs ys front cut = by cut.whole
  where
    by : (xs ≡ front ++ (10 ∷ ys)) ⊎ ((xs ≡ front) × (ys ≡ [])) → ys ≡ behind_line xs
    by (inl e) = sym (ap behind_line e ∙ behind_cut front ys cut.clean)
    by (inr e) = e.1 ∙ sym (ap behind_line e.0 ∙ behind_all front cut.clean)

is_behind : (s : Said) (xs ys : List ℕ) → ys ≡ behind_line xs → IsBehind s xs ys
is_behind (said.Head version link) xs ys e = e
is_behind (said.Channel config) xs ys e = e
is_behind said.End xs ys e = e
is_behind said.Other xs ys e = e
is_behind (said.Refused fault) xs ys e = tt

next_is : (r : Reached) (xs front : List ℕ) (more : List (List ℕ)) → lines_of xs ≡ front ∷ more → next_judged r xs ≡ judged r front
unfolding next_judged
next_is r xs front more e = ap (first_judged r) e

none_is : (r : Reached) (xs : List ℕ) → lines_of xs ≡ [] → next_judged r xs ≡ Err Order
unfolding next_judged
none_is r xs e = ap (first_judged r) e

-- what the reader's line says
pub line_says : (left leaves : Option (List ℕ)) (front : List ℕ) (r now : Reached) (s : Said) → TakesNext left leaves front Line → Says r front now s → IfBothTold left leaves (IsNext r now s)
line_says None leaves front r now s next says = tt
line_says (Some xs) None front r now s next says = next
line_says (Some xs) (Some ys) front r now s next says =
    (subst (λ (o : Result (TraceLine × Reached) LineFault). SaysOf o now s) (sym (next_is r xs front (lines_of ys) next.0)) says, is_behind s xs ys (behind_is xs ys front next.2))

pub long_says : (left leaves : Option (List ℕ)) (front : List ℕ) (r now : Reached) → TakesNext left leaves front Long → IfBothTold left leaves (IsNext r now (said.Refused Form))
long_says None leaves front r now next = tt
long_says (Some xs) None front r now next = next
long_says (Some xs) (Some ys) front r now next = (next_is r xs next.0 next.1 next.2 ∙ judged_by r next.0 next.3, tt)

pub end_says : (left leaves : Option (List ℕ)) (front : List ℕ) (r now : Reached) → TakesNext left leaves front End → IfBothTold left leaves (IsNext r now (said.Refused Order))
end_says None leaves front r now next = tt
end_says (Some xs) None front r now next = next
end_says (Some xs) (Some ys) front r now next = (none_is r xs next, tt)

-- a line that opens no channel, and is neither a head line nor `end`
pub of_no_head : (l : code.Line) → IsOther l → ((version tick link : ℕ) → l ≡ line.Head version tick link → ⊥) → (l ≡ line.End → ⊥) → IsOfNoHead (shown l)
of_no_head (line.Head version tick link) other head end = head version tick link refl
of_no_head (line.Channel version c) other head end = other
of_no_head (line.Live id hex) other head end = tt
of_no_head (line.Feedback id client hex) other head end = tt
of_no_head line.Tick other head end = tt
of_no_head line.End other head end = end refl
of_no_head (line.Tune id client ssrc) other head end = tt
of_no_head (line.Give number) other head end = tt
of_no_head (line.Mcast id client n) other head end = tt
of_no_head (line.Ask id client) other head end = tt
of_no_head (line.Drop id client) other head end = tt
