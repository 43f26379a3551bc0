-- Sums over views, how often a number stands in a list, and what holds of each.
use Rattle.std.proofs.Common.{◌≡◌, ◌≢◌, ℕ, zero, suc, ◌+◌, ◌<◌, ◌≤◌, List, [], ◌∷◌, ◌++◌, length, set, ap, sym, arith, refl}
use Rattle.std.specs.List.{AllByRecursion as Each}
use Rattle.std.proofs.lemmas.Bool.Decides.{nat_tests}
use mathlib.Core.Option.{some, some-injective, some-ne-none}
use lib.ListN.{get_elem?}
use Rattle.channel_book.specs.channel_lock.{total, times}

module _ {A : Type 0} (f : A → ℕ) where
  pub total_set : (xs : List A) (i : ℕ) (a b : A) → get_elem? xs i ≡ some a → total f (set xs i b) + f a ≡ total f xs + f b
  total_set [] i a b at = absurd (some-ne-none a (sym at))
  total_set (x ∷ xs) zero a b at = omega (arith, ap f (some-injective x a at))
  total_set (x ∷ xs) (suc i) a b at = omega (arith, total_set xs i a b at)

  pub total_snoc : (xs : List A) (b : A) → total f (xs ++ b ∷ []) ≡ total f xs + f b
  total_snoc [] b = omega arith
  total_snoc (x ∷ xs) b = omega (arith, total_snoc xs b)

  pub term_le : (xs : List A) (i : ℕ) (a : A) → get_elem? xs i ≡ some a → f a ≤ total f xs
  term_le [] i a at = absurd (some-ne-none a (sym at))
  term_le (x ∷ xs) zero a at = omega (arith, ap f (some-injective x a at))
  term_le (x ∷ xs) (suc i) a at = omega (arith, term_le xs i a at)

  -- two that stand at different places
  pub two_le : (xs : List A) (i j : ℕ) (a b : A) → i ≢ j → get_elem? xs i ≡ some a → get_elem? xs j ≡ some b → f a + f b ≤ total f xs
  two_le [] i j a b apart at there = absurd (some-ne-none a (sym at))
  two_le (x ∷ xs) zero zero a b apart at there = absurd (apart refl)
  two_le (x ∷ xs) zero (suc j) a b apart at there = omega (arith, ap f (some-injective x a at), term_le xs j b there)
  two_le (x ∷ xs) (suc i) zero a b apart at there = omega (arith, ap f (some-injective x b there), term_le xs i a at)
  two_le (x ∷ xs) (suc i) (suc j) a b apart at there = omega (arith, two_le xs i j a b (λ e. apart (ap suc e)) at there)

  pub all_zero : (xs : List A) → ((i : ℕ) (a : A) → get_elem? xs i ≡ some a → f a ≡ 0) → total f xs ≡ 0
  all_zero [] none = refl
  all_zero (x ∷ xs) none = omega (arith, none 0 x refl, all_zero xs (λ i a at. none (suc i) a at))

  -- where all others count nothing
  pub only_one : (xs : List A) (i : ℕ) (a : A) → get_elem? xs i ≡ some a → ((j : ℕ) (b : A) → j ≢ i → get_elem? xs j ≡ some b → f b ≡ 0) → total f xs ≡ f a
  only_one [] i a at none = absurd (some-ne-none a (sym at))
  only_one (x ∷ xs) zero a at none = omega (arith, ap f (some-injective x a at), all_zero xs (λ j b there. none (suc j) b (λ e. absurd (omega (arith, e))) there))
  only_one (x ∷ xs) (suc i) a at none =
      omega (arith, none 0 x (λ e. absurd (omega (arith, e))) refl, only_one xs i a at (λ j b apart there. none (suc j) b (λ e. apart (omega (arith, e))) there))

module _ {A : Type 0} (f g : A → ℕ) where
  pub total_le : (xs : List A) → ((i : ℕ) (a : A) → get_elem? xs i ≡ some a → f a ≤ g a) → total f xs ≤ total g xs
  total_le [] each = omega arith
  total_le (x ∷ xs) each = omega (arith, each 0 x refl, total_le xs (λ i a at. each (suc i) a at))

  pub total_less : (xs : List A) (i : ℕ) (a : A) → get_elem? xs i ≡ some a → ((i : ℕ) (a : A) → get_elem? xs i ≡ some a → f a ≤ g a) → f a < g a → total f xs < total g xs
  total_less [] i a at each less = absurd (some-ne-none a (sym at))
  total_less (x ∷ xs) zero a at each less =
      omega (arith, ap f (some-injective x a at), ap g (some-injective x a at), total_le xs (λ i b there. each (suc i) b there), less)
  total_less (x ∷ xs) (suc i) a at each less =
      omega (arith, each 0 x refl, total_less xs i a at (λ j b there. each (suc j) b there) less)

pub times_append : (n : ℕ) (xs ys : List ℕ) → times n (xs ++ ys) ≡ times n xs + times n ys
times_append n [] ys = omega arith
times_append n (x ∷ xs) ys = omega (arith, times_append n xs ys)

pub no_times : (n : ℕ) (xs : List ℕ) → length xs ≡ 0 → times n xs ≡ 0
no_times n [] e = refl
no_times n (x ∷ xs) e = absurd (omega (arith, e))

pub stands_first : (n : ℕ) (xs : List ℕ) → 0 < times n (n ∷ xs)
stands_first n xs = grind (arith, nat_tests)

pub each_snoc : {A : Type 0} (P : A → Type 0) (xs : List A) (x : A) → Each P xs → P x → Each P (xs ++ x ∷ [])
each_snoc P [] x each one = (one, tt)
each_snoc P (y ∷ xs) x each one = (each.0, each_snoc P xs x each.1 one)
