-- The known clients and those with an open burst stand by rising number, each once.
use Rattle.std.proofs.Common.{◌≡◌, ℕ, ◌<◌, Bool, true, false, ◌||◌, ⊎_elim, List, [], ◌∷◌, refl, ap, sym, ◌∙◌, subst, arith, eqb, ltb}
use Rattle.std.specs.Prelude.{◌≢◌, filter}
use Rattle.std.specs.List.{AllByRecursion as Each}
use Rattle.std.specs.List.Sorted.{IsStrictlySortedBy}
use Rattle.std.specs.Ordering.{nat_cmp}
use Rattle.std.specs.Cmp.{nat_cmp_is}
use Rattle.std.specs.declared.cmp.Ordering.TheVariants.{Less}
use Rattle.std.proofs.lemmas.Bool.{cond_both, cases_Bool, cases_order, or_left, or_from, or_parts, both_ways, eqb-true, eqb-false, eq-eqb, ne_eqb, ltb-true, ltb-false}
use Rattle.rams_model.specs.declared.Note.TheVariants as note
use Rattle.rams_model.specs.Service.{began, told, noted, History, known, opened, is_among, placed, with_client}
use Rattle.rams_model.proofs.Legality.{each_passed}
use Rattle.rams_model.proofs.ListFacts.{each_weaker}

-- each of some numbers is below those after it
abbrev pub Rise : List ℕ → Type 0
Rise [] = Unit {0}
Rise (k ∷ ks) = Each (λ j. k < j) ks × Rise ks

pub sorted : (ks : List ℕ) → Rise ks → IsStrictlySortedBy nat_cmp ks
unfolding IsStrictlySortedBy
sorted [] r = tt
sorted (k ∷ ks) r = (each_weaker (λ j. k < j) (λ j. nat_cmp k j ≡ Less) (λ j lt. sym (nat_cmp_is k j Less lt)) ks r.0, sorted ks r.1)

-- one more in its place
above_placed : (i k : ℕ) (ks : List ℕ) → i < k → Each (λ j. i < j) ks → Each (λ j. i < j) (placed k ks)
above_placed i k [] lt a = (lt, tt)
above_placed i k (j ∷ js) lt a =
    cond_both (ltb k j) (k ∷ j ∷ js) (j ∷ placed k js) (Each (λ m. i < m)) (λ t. (lt, a)) (λ f. (a.0, above_placed i k js lt a.1))

rise_placed : (k : ℕ) (ks : List ℕ) → is_among k ks ≡ false → Rise ks → Rise (placed k ks)
rise_placed k [] out r = (tt, tt)
rise_placed k (j ∷ js) out r =
    let parts = or_parts (eqb j k) (is_among k js) out in
    let other : j ≢ k = eqb-false j k parts.0 in
    cond_both (ltb k j) (k ∷ j ∷ js) (j ∷ placed k js) Rise
    (λ t. let lt = ltb-true k j t in ((lt, each_weaker (λ m. j < m) (λ m. k < m) (λ m above. omega (arith, lt, above)) js r.0), r))
    (λ f. let lt : j < k = omega (arith, other, ltb-false k j f) in (above_placed j k js lt r.0, rise_placed k js parts.1 r.1))

rise_with : (k : ℕ) (ks : List ℕ) → Rise ks → Rise (with_client k ks)
rise_with k ks r = cond_both (is_among k ks) ks (placed k ks) Rise (λ t. r) (λ out. rise_placed k ks out r)

-- fewer of them
pub rise_passed : (test : ℕ → Bool) (ks : List ℕ) → Rise ks → Rise (filter test ks)
rise_passed test [] r = tt
rise_passed test (k ∷ ks) r =
    cond_both (test k) (k ∷ filter test ks) (filter test ks) Rise (λ t. (each_passed (λ j. k < j) test ks r.0, rise_passed test ks r.1)) (λ f. rise_passed test ks r.1)

pub known_rise : (history : History) → Rise (known history)
unfolding known
known_rise [] = tt
known_rise (began heard ∷ history) = known_rise history
known_rise (told client message ∷ history) = known_rise history
known_rise (noted (note.Accept client first rate join) packet ∷ history) = rise_with client (known history) (known_rise history)
known_rise (noted (note.Queued client n) packet ∷ history) = rise_with client (known history) (known_rise history)
known_rise (noted (note.Bye client) packet ∷ history) = rise_passed _ (known history) (known_rise history)
known_rise (noted (note.Forgot client) packet ∷ history) = rise_passed _ (known history) (known_rise history)
known_rise (noted note packet ∷ history) = known_rise history

pub opened_rise : (history : History) → Rise (opened history)
unfolding opened
opened_rise [] = tt
opened_rise (began heard ∷ history) = opened_rise history
opened_rise (told client message ∷ history) = opened_rise history
opened_rise (noted (note.Accept client first rate join) packet ∷ history) = rise_with client (opened history) (opened_rise history)
opened_rise (noted (note.End client cause) packet ∷ history) = rise_passed _ (opened history) (opened_rise history)
opened_rise (noted note packet ∷ history) = opened_rise history

-- a number that is below some is not among them
pub not_below : (k : ℕ) (ks : List ℕ) → Each (λ j. k < j) ks → is_among k ks ≡ false
not_below k [] a = refl
not_below k (j ∷ js) a = or_from (eqb j k) (is_among k js) (ne_eqb j k (λ e. omega (arith, e, a.0))) (not_below k js a.1)

-- Numbers that rise are the same where the same numbers are among them.
abbrev SameAmong : List ℕ → List ℕ → Type 0
SameAmong ks js = (i : ℕ) → is_among i ks ≡ is_among i js

-- the number that is among both
among_itself : (k : ℕ) (ks : List ℕ) → is_among k (k ∷ ks) ≡ true
among_itself k ks = or_left (eqb k k) (is_among k ks) (eq-eqb k k refl)

-- the least of both is the first of both
first_below : (k j : ℕ) (ks js : List ℕ) → Each (λ i. j < i) js → SameAmong (k ∷ ks) (j ∷ js) → k < j → ⊥
first_below k j ks js above same lt =
    let here : is_among k (j ∷ js) ≡ true = sym (same k) ∙ among_itself k ks in
    let all : Each (λ i. k < i) js = each_weaker (λ i. j < i) (λ i. k < i) (λ i more. omega (arith, lt, more)) js above in
    both_ways (is_among k (j ∷ js)) (not_below k (j ∷ js) (lt, all)) here

-- and the others are the same too
same_tail : (k : ℕ) (ks js : List ℕ) → Each (λ i. k < i) ks → Each (λ i. k < i) js → SameAmong (k ∷ ks) (k ∷ js) → SameAmong ks js
same_tail k ks js a b same i =
    ⊎_elim
    (λ t. subst (λ (m : ℕ). is_among m ks ≡ is_among m js) (eqb-true k i t) (not_below k ks a ∙ sym (not_below k js b)))
    (λ f. ap (λ (c : Bool). c || is_among i ks) (sym f) ∙ same i ∙ ap (λ (c : Bool). c || is_among i js) f) (cases_Bool (eqb k i))

pub same_rise : (ks js : List ℕ) → Rise ks → Rise js → SameAmong ks js → ks ≡ js
same_rise [] [] r q same = refl
same_rise [] (j ∷ js) r q same = absurd (both_ways (is_among j (j ∷ js)) (sym (same j)) (among_itself j js))
same_rise (k ∷ ks) [] r q same = absurd (both_ways (is_among k (k ∷ ks)) (same k) (among_itself k ks))
same_rise (k ∷ ks) (j ∷ js) r q same =
    ⊎_elim
    (λ (e : k ≡ j).
    let above : Each (λ i. k < i) js = subst (λ (m : ℕ). Each (λ i. m < i) js) (sym e) q.0 in
    let alike : SameAmong (k ∷ ks) (k ∷ js) = subst (λ (m : ℕ). SameAmong (k ∷ ks) (m ∷ js)) (sym e) same in
    ap (λ (m : ℕ). m ∷ ks) e ∙ ap (λ (l : List ℕ). j ∷ l) (same_rise ks js r.1 q.1 (same_tail k ks js r.0 above alike)))
    (λ o. ⊎_elim (λ lt. absurd (first_below k j ks js q.0 same lt)) (λ gt. absurd (first_below j k js ks r.0 (λ i. sym (same i)) gt)) o)
    (cases_order k j)
