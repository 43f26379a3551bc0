-- Claims in another order: those that adjoin are found again by sorting.
use Rattle.std.proofs.Common.{◌≡◌, ℕ, suc, ◌+◌, ◌<◌, ◌≤◌, Bool, true, false, cond, List, [], ◌∷◌, get_or, length, refl, sym, ap, ◌∙◌, subst, arith}
use Rattle.std.specs.Prelude.{◌==◌, ◌&&◌}
use Rattle.std.specs.List.{AllByRecursion as Each}
use Rattle.std.specs.List.Sorted.{IsPermutation, IsNonDecreasingBy}
use Rattle.std.proofs.lemmas.Bool.Decides.{nat_tests}
use Rattle.std.proofs.lemmas.List.Sorted.{sum_by-IsPermutation}
use mathlib.Core.Logic.{dite}
use native.Mathlib.Decide.{ℕ_discrete}
use Rattle.pool.specs.declared.link_pool.claim.Claim.{Claim}
use Rattle.pool.specs.link_pool.Claims.{claim, claims_of, Adjoin}
use Rattle.channel_book.specs.channel_lock.{total}
use Rattle.pool.proofs.link_pool.Sums.{sum_total}

-- ---- how often a claim stands in a list

abbrev pub same : ℕ → ℕ → ℕ → ℕ → ℕ → ℕ → ℕ
same a b c x y z = cond ((x == a) && (y == b) && (z == c)) 1 0

abbrev pub hits : Claim → Claim → ℕ
hits c d = same c.taker c.from c.bytes d.taker d.from d.bytes

abbrev pub many : Claim → List Claim → ℕ
many c xs = total (hits c) xs

hits_itself : (c : Claim) → hits c c ≡ 1
hits_itself c = grind (arith, nat_tests)

hits_taker : (a b c x y z : ℕ) → 0 < same a b c x y z → x ≡ a
hits_taker a b c x y z h = grind (arith, nat_tests)

hits_from : (a b c x y z : ℕ) → 0 < same a b c x y z → y ≡ b
hits_from a b c x y z h = grind (arith, nat_tests)

hits_bytes : (a b c x y z : ℕ) → 0 < same a b c x y z → z ≡ c
hits_bytes a b c x y z h = grind (arith, nat_tests)

hits_same : (c d : Claim) → 0 < hits c d → d ≡ c
hits_same c d h = λ j. claim (hits_taker c.taker c.from c.bytes d.taker d.from d.bytes h j) (hits_from c.taker c.from c.bytes d.taker d.from d.bytes h j) (hits_bytes c.taker c.from c.bytes d.taker d.from d.bytes h j)

-- a claim is one of its taker's
missed : (a b e x y z : ℕ) → (x == a) ≡ false → same a b e x y z ≡ 0
missed a b e x y z other = grind (arith, nat_tests)

many_own : (c : Claim) (xs : List Claim) → many c xs ≡ many c (claims_of c.taker xs)
many_own c [] = refl
many_own c (x ∷ xs) = go (many_own c xs) (x.taker == c.taker) refl
  where
    go : many c xs ≡ many c (claims_of c.taker xs) → (b : Bool) → (x.taker == c.taker) ≡ b → hits c x + many c xs ≡ many c (cond b (x ∷ claims_of c.taker xs) (claims_of c.taker xs))
    go rest true e = omega (arith, rest)
    go rest false e = omega (arith, rest, missed c.taker c.from c.bytes x.taker x.from x.bytes e)

pub many_same : (xs ys : List Claim) → ((number : ℕ) → claims_of number xs ≡ claims_of number ys) → (c : Claim) → many c xs ≡ many c ys
many_same xs ys each c = many_own c xs ∙ ap (many c) (each c.taker) ∙ sym (many_own c ys)

pub many_permuted : (xs ys : List Claim) → IsPermutation xs ys → (c : Claim) → many c ys ≡ many c xs
many_permuted xs ys p c = sym (sum_total (hits c) ys) ∙ sum_by-IsPermutation (hits c) xs ys p ∙ sum_total (hits c) xs

-- what holds of each holds of one that is found
found : (P : Claim → Type 0) (c : Claim) (xs : List Claim) → Each P xs → 0 < many c xs → P c
found P c [] each some = absurd (omega (arith, some))
found P c (x ∷ xs) each some =
    dite (ℕ_discrete (hits c x) 0)
    (λ none. found P c xs each.1 (omega (arith, none, some)))
    (λ one. subst P (hits_same c x (omega (arith, one))) each.0)

-- ---- rising claims

-- none begins in front of one before it
abbrev pub Rising : List Claim → Type 0
Rising [] = Unit {0}
Rising (c ∷ later) = Each (λ (d : Claim). c.from ≤ d.from) later × Rising later

each_from : (low : ℕ) (xs : List Claim) → ((k : ℕ) (d : Claim) → k < length xs → low ≤ (get_or xs k d).from) → Each (λ (d : Claim). low ≤ d.from) xs
each_from low [] h = tt
each_from low (x ∷ xs) h = (h 0 x (omega arith), each_from low xs (λ k d less. h (suc k) d (omega (arith, less))))

pub rising_from : (xs : List Claim) → IsNonDecreasingBy (λ (c : Claim). c.from) xs → Rising xs
rising_from [] up = tt
rising_from (x ∷ xs) up = (
  each_from x.from xs (λ k d less. up 0 (suc k) d (omega arith) (omega (arith, less))),
  rising_from xs (λ i j d le less. up (suc i) (suc j) d (omega (arith, le)) (omega (arith, less))),
)

above : (low first : ℕ) (xs : List Claim) → low ≤ first → Adjoin first xs → Each (λ (d : Claim). low ≤ d.from) xs
above low first [] le adjoin = tt
above low first (x ∷ xs) le adjoin = (omega (arith, le, adjoin.0), above low (first + x.bytes) xs (omega (arith, le)) adjoin.2)

-- The claims that adjoin are the rising list of them.
pub one_order : (first : ℕ) (drawn given : List Claim) → Adjoin first drawn → Rising given → ((c : Claim) → many c given ≡ many c drawn) → given ≡ drawn
one_order first [] [] adjoin up each = refl
one_order first [] (g ∷ gs) adjoin up each = absurd (omega (arith, hits_itself g, each g))
one_order first (d ∷ ds) [] adjoin up each = absurd (omega (arith, hits_itself d, each d))
one_order first (d ∷ ds) (g ∷ gs) adjoin up each =
    let low : d.from ≤ g.from =
    found (λ (x : Claim). d.from ≤ x.from) g (d ∷ ds) (omega arith, above d.from (first + d.bytes) ds (omega (arith, adjoin.0)) adjoin.2) (omega (arith, hits_itself g, each g)) in
    let high : g.from ≤ d.from = found (λ (x : Claim). g.from ≤ x.from) d (g ∷ gs) (omega arith, up.0) (omega (arith, hits_itself d, each d)) in
    let is : g ≡ d =
    dite (ℕ_discrete (hits g d) 0)
    (λ none. absurd (let later : first + d.bytes ≤ g.from = found (λ (x : Claim). first + d.bytes ≤ x.from) g ds (above (first + d.bytes) (first + d.bytes) ds (omega arith) adjoin.2) (omega (arith, hits_itself g, each g, none)) in
    omega (arith, later, high, adjoin.0, adjoin.1)))
    (λ one. sym (hits_same g d (omega (arith, one)))) in
    let later : gs ≡ ds = one_order (first + d.bytes) ds gs adjoin.2 up.1 (λ c. omega (arith, each c, ap (hits c) is)) in
    λ j. is j ∷ later j
