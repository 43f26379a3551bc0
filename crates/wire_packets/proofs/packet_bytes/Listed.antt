-- Whether one of some words is a number.
use Rattle.std.proofs.Common.{◌≡◌, ℕ, ◌≤◌, ◌<◌, true, false, List, length, drop, ◌∙◌, ap, eq-eqb}
use Rattle.std.specs.Prelude.{◌==◌, ◌||◌}
use Rattle.std.specs.List.{list_any}
use Rattle.std.specs.Int.{w32, from_be_bytes}
use Rattle.std.proofs.lemmas.Bool.{ne_eqb}
use Rattle.rams_model.specs.Formats.{words32}
use Rattle.rams_model.proofs.Joined.{words_step, words_end}

-- the first word is the number
pub listed_here : (number : ℕ) (bytes : List ℕ) → 4 ≤ length bytes → from_be_bytes w32 bytes ≡ number → list_any (λ w. w == number) (words32 bytes) ≡ true
listed_here number bytes h e =
    ap (list_any (λ w. w == number)) (words_step bytes h) ∙ ap (λ b. b || list_any (λ w. w == number) (words32 (drop 4 bytes))) (eq-eqb (from_be_bytes w32 bytes) number e)

-- it isn't
pub listed_behind : (number : ℕ) (bytes : List ℕ) → 4 ≤ length bytes → (from_be_bytes w32 bytes ≡ number → ⊥)
    → list_any (λ w. w == number) (words32 bytes) ≡ list_any (λ w. w == number) (words32 (drop 4 bytes))
listed_behind number bytes h e =
    ap (list_any (λ w. w == number)) (words_step bytes h) ∙ ap (λ b. b || list_any (λ w. w == number) (words32 (drop 4 bytes))) (ne_eqb (from_be_bytes w32 bytes) number e)

pub listed_nowhere : (number : ℕ) (bytes : List ℕ) → length bytes < 4 → list_any (λ w. w == number) (words32 bytes) ≡ false
listed_nowhere number bytes h = ap (list_any (λ w. w == number)) (words_end bytes h)

pub ruleset listed = (listed_here, listed_behind, listed_nowhere)
