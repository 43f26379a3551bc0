-- Facts of tests and lists that speak of nothing that a channel has.
use Rattle.std.proofs.Common.{◌≡◌, ℕ, zero, suc, ◌≤◌, Bool, true, false, cond, ◌||◌, ⊎_elim, List, [], ◌∷◌, length, map, Result, Ok, Err, OnErr, get_or, refl, sym, ◌∙◌, arith, eqb}
use Rattle.std.proofs.Math.ListN.{replicate}
use Rattle.std.specs.Prelude.{filter}
use Rattle.std.specs.List.{AllByRecursion as Each}
use Rattle.std.proofs.lemmas.Bool.{cond_both, cases_Bool, eqb-true, eqb-false, eq-eqb, ne_eqb}

pub or_swap : (a b c : Bool) → (a || (b || c)) ≡ (b || (a || c))
or_swap true true c = refl
or_swap true false c = refl
or_swap false b c = refl

pub eqb_sym : (i j : ℕ) → eqb i j ≡ eqb j i
eqb_sym i j = ⊎_elim (λ t. let e = eqb-true i j t in t ∙ sym (eq-eqb j i (sym e))) (λ f. f ∙ sym (ne_eqb j i (λ e. eqb-false i j f (sym e)))) (cases_Bool (eqb i j))

pub apart : (i j : ℕ) → eqb i j ≡ false → eqb j i ≡ false
apart i j f = eqb_sym j i ∙ f

-- no more pass than there are
pub few_passed : {A : Type 0} (test : A → Bool) (xs : List A) → length (filter test xs) ≤ length xs
few_passed test [] = omega arith
few_passed test (x ∷ xs) =
    cond_both (test x) (x ∷ filter test xs) (filter test xs) (λ l. length l ≤ length (x ∷ xs)) (λ t. omega (arith, few_passed test xs)) (λ f. omega (arith, few_passed test xs))

pub each_weaker : {A : Type 0} (P Q : A → Type 0) → ((x : A) → P x → Q x) → (xs : List A) → Each P xs → Each Q xs
each_weaker P Q f [] a = tt
each_weaker P Q f (x ∷ xs) a = (f x a.0, each_weaker P Q f xs a.1)

pub map_cond : (f : ℕ → ℕ) (b : Bool) (x : ℕ) (xs : List ℕ) → map f (cond b (x ∷ xs) xs) ≡ cond b (f x ∷ map f xs) (map f xs)
map_cond f true x xs = refl
map_cond f false x xs = refl

-- what holds holds where a call fails
pub on_failure : {T E : Type 0} (r : Result T E) (P : Type 0) → P → OnErr r P
on_failure (Ok value) P p = tt
on_failure (Err e) P p = p

-- none of some marks is set at first
pub none_marked : (k n : ℕ) → get_or (replicate k false) n false ≡ false
none_marked zero n = refl
none_marked (suc k) zero = refl
none_marked (suc k) (suc n) = none_marked k n
