-- What holds of all that lines bring holds of all that comes in a trace.
use Rattle.std.proofs.Common.{ℕ, List, [], ◌∷◌, Option, Some, None, suc, arith}
use Rattle.std.specs.Prelude.{All, IfSome, filter_map, option_and_then}
use Rattle.std.specs.List.{cons_option}
use mathlib.Core.List.{reverse_aux}
use Rattle.std.proofs.lemmas.List.Elements.{All-nil, All-cons}
use Rattle.rams_model.specs.Texts.{TraceLine, line_of}
use Rattle.trace_loop.specs.trace_book.trace_serving.{Serving, brought, event_at, taken, came}

module _ {State Event : Type 0} (s : Serving State Event) (P : Event → Type 0) (brings : (line : TraceLine) → IfSome (brought s line) P) where
  read_brings : (o : Option TraceLine) → IfSome (option_and_then (brought s) o) P
  read_brings None = tt
  read_brings (Some line) = brings line

  one_more : (o : Option Event) (events : List Event) → IfSome o P → All P events → All P (cons_option o events)
  one_more None events i a = a
  one_more (Some e) events i a = All-cons P e events i a

  lines_bring : (lines : List (List ℕ)) → All P (filter_map (event_at s) lines)
  lines_bring [] = All-nil P
  lines_bring (bytes ∷ lines) = one_more (event_at s bytes) (filter_map (event_at s) lines) (read_brings (line_of bytes)) (lines_bring lines)

  reversed : (events past : List Event) → All P events → All P past → All P (reverse_aux events past)
  reversed [] past a b = b
  reversed (e ∷ events) past a b = reversed events (e ∷ past) (λ k d less. a (suc k) d (omega (arith, less))) (All-cons P e past (a 0 e (omega arith)) b)

  pub all_came : (trace : List ℕ) → All P (came s trace)
  all_came trace = reversed (filter_map (event_at s) (taken s trace)) [] (lines_bring (taken s trace)) (All-nil P)
