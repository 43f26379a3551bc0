-- The numbers from one on.
use Rattle.std.proofs.Common.{◌≡◌, ℕ, zero, suc, ◌+◌, ◌-◌, ◌<◌, ◌≤◌, List, [], ◌∷◌, ◌++◌, map, length, refl, ap, ◌∙◌, arith}
use Rattle.std.proofs.lemmas.List.{map-append}
use Rattle.std.proofs.lemmas.Bool.Decides.{nat_tests}
use Rattle.channel_book.specs.channel_lock.{times, numbers}

pub length_numbers : (first n : ℕ) → length (numbers first n) ≡ n
length_numbers first zero = refl
length_numbers first (suc n) = ap suc (length_numbers (first + 1) n)

none_below : (number first n : ℕ) → number < first → times number (numbers first n) ≡ 0
none_below number first zero below = refl
none_below number first (suc n) below = let later = none_below number (first + 1) n (omega (arith, below)) in grind (arith, nat_tests)

not_again : (number first n : ℕ) → number ≡ first → times number (numbers (first + 1) n) ≡ 0
not_again number first n is = none_below number (first + 1) n (omega (arith, is))

pub stands_once : (number first n : ℕ) → times number (numbers first n) ≤ 1
stands_once number first zero = omega arith
stands_once number first (suc n) = let later = stands_once number (first + 1) n in let here = not_again number first n in grind (arith, nat_tests)

pub numbers_snoc : (first n : ℕ) → numbers first (n + 1) ≡ numbers first n ++ (first + n) ∷ []
numbers_snoc first zero = ap (λ (k : ℕ). k ∷ []) (omega arith)
numbers_snoc first (suc n) =
    let e : first + 1 + n ≡ first + suc n = omega arith in
    let more : suc n + 1 ≡ suc (n + 1) = omega arith in
    ap (numbers first) more ∙ ap (λ (l : List ℕ). first ∷ l) (numbers_snoc (first + 1) n ∙ ap (λ (k : ℕ). numbers (first + 1) n ++ k ∷ []) e)

pub numbers_next : (first end : ℕ) → first < end → numbers first (end - first) ≡ first ∷ numbers (first + 1) (end - (first + 1))
numbers_next first end less = let e : end - first ≡ suc (end - (first + 1)) = omega (arith, less) in ap (numbers first) e

-- what is made of each number, with one number more
pub map_numbers : {A : Type 0} (f : ℕ → A) (n : ℕ) → map f (numbers 0 (n + 1)) ≡ map f (numbers 0 n) ++ f n ∷ []
map_numbers f n =
    let e : 0 + n ≡ n = omega arith in
    ap (map f) (numbers_snoc 0 n) ∙ (map-append f (numbers 0 n) ((0 + n) ∷ []) ∙ ap (λ k. map f (numbers 0 n) ++ f k ∷ []) e)
