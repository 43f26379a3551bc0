-- Lines of events, as far as there is room for them.
use Rattle.std.proofs.Common.{◌≡◌, ℕ, zero, suc, ◌+◌, ◌<◌, ◌≤◌, nat_le, true, false, List, [], ◌∷◌, ◌++◌, length, take, replicate, Option, option_to_list, refl, ap, ◌∙◌, arith, append_assoc, length-append}
use Rattle.std.specs.Prelude.{◌⊎◌}
use Rattle.std.proofs.Common.{inl, inr}
use Rattle.std.proofs.lemmas.Bool.Decides.{nat_tests}
use Rattle.std.proofs.lemmas.List.{take-append-le}
use Rattle.server_hub.specs.declared.{HubEvent.HubEvent, HubEvent.TheVariants.Tick}
use Rattle.trace_loop.specs.trace_book.trace_serving.{Outcome, after_text, too_long}
use Rattle.trace_loop.specs.journal_book.{event_lines}
use Rattle.trace_loop.proofs.journal_book.EventLines.{lines_append}
use Rattle.converters.specs.capture_loop.{limited, ticks_and}

at_most : (a b : ℕ) → a ≤ b → nat_le a b ≡ true
at_most a b h = grind (arith, nat_tests)

not_at_most : (a b : ℕ) → b < a → nat_le a b ≡ false
not_at_most a b h = grind (arith, nat_tests)

take_past : {A : Type 0} (room left : ℕ) (xs ys : List A) → left + length xs ≡ room → take room (xs ++ ys) ≡ xs ++ take left ys
take_past {A} room left [] ys h = let same : room ≡ left = omega arith in ap (λ n. take n ys) same
take_past {A} zero left (x ∷ xs) ys h = absurd (omega arith)
take_past {A} (suc room) left (x ∷ xs) ys h = ap (λ (l : List A). x ∷ l) (take_past room left xs ys (omega arith))

-- there is room, or there is none
pub fits_or_not : (n room : ℕ) → (n ≤ room) ⊎ (room < n)
fits_or_not zero room = inl (omega arith)
fits_or_not (suc n) zero = inr (omega arith)
fits_or_not (suc n) (suc room) = elim (fits_or_not n room) as (λ _. (suc n ≤ suc room) ⊎ (suc room < suc n)) [ inl h ↦ inl (omega arith) | inr h ↦ inr (omega arith) ]

module _ (room : ℕ) (new rest : List HubEvent) (o : Outcome) where
  -- there is room for the first events
  pub limited_past : (left : ℕ) → left + length new ≡ room → limited room (new ++ rest) o ≡ after_text (event_lines new) (limited left rest o)
  limited_past left h =
      elim (fits_or_not (length rest) left) as (λ _. limited room (new ++ rest) o ≡ after_text (event_lines new) (limited left rest o)) [
        | inl fits ↦ rw (at_most (length (new ++ rest)) room (omega (arith, length-append new rest)), at_most (length rest) left fits)
            (ap (λ (t : List ℕ). after_text t o) (lines_append new rest) ∙ ap (λ (t : List ℕ). record o { text = t }) (append_assoc (event_lines new) (event_lines rest) o.text))
        | inr over ↦ rw (not_at_most (length (new ++ rest)) room (omega (arith, length-append new rest)), not_at_most (length rest) left over)
            (ap (λ (es : List HubEvent). after_text (event_lines es) too_long) (take_past room left new rest h) ∙ ap (λ (t : List ℕ). after_text t too_long) (lines_append new (take left rest))
            ∙ ap (λ (t : List ℕ). record too_long { text = t }) (append_assoc (event_lines new) (event_lines (take left rest)) too_long.text))
      ]

  -- there is none for all of them
  pub limited_full : room < length new → limited room (new ++ rest) o ≡ after_text (event_lines (take room new)) too_long
  limited_full over =
      rw (not_at_most (length (new ++ rest)) room (omega (arith, length-append new rest)))
      (ap (λ (es : List HubEvent). after_text (event_lines es) too_long) (take-append-le room new rest (omega arith)))

pub limited_none : (room : ℕ) (o : Outcome) → limited room [] o ≡ o
limited_none room o = rw (at_most 0 room (omega arith)) refl

-- ticks, as far as there is room
length_replicate : (n : ℕ) → length (replicate n Tick) ≡ n
length_replicate zero = refl
length_replicate (suc n) = ap suc (length_replicate n)

take_replicate : (room n : ℕ) → room ≤ n → take room (replicate n Tick) ≡ replicate room Tick
take_replicate zero n h = refl
take_replicate (suc room) zero h = absurd (omega arith)
take_replicate (suc room) (suc n) h = ap (λ (l : List HubEvent). Tick ∷ l) (take_replicate room n (omega arith))

pub ticks_length : (ticks : ℕ) (event : Option HubEvent) → length (ticks_and ticks event) ≡ ticks + length (option_to_list event)
ticks_length ticks event = length-append (replicate ticks Tick) (option_to_list event) ∙ ap (λ n. n + length (option_to_list event)) (length_replicate ticks)

-- there is no room for all ticks
pub ticks_alone : (room ticks : ℕ) (event : Option HubEvent) → room ≤ ticks → take room (ticks_and ticks event) ≡ replicate room Tick
ticks_alone room ticks event h = take-append-le room (replicate ticks Tick) (option_to_list event) (omega (arith, length_replicate ticks)) ∙ take_replicate room ticks h

-- there is room for all ticks, and for so many events behind them
pub ticks_first : (room left ticks : ℕ) (event : Option HubEvent) → left + ticks ≡ room → take room (ticks_and ticks event) ≡ replicate ticks Tick ++ take left (option_to_list event)
ticks_first room left ticks event h = take_past room left (replicate ticks Tick) (option_to_list event) (omega (arith, length_replicate ticks))
