-- Where a client stands among those with an open burst.
use Rattle.std.proofs.Common.{◌≡◌, ℕ, zero, suc, ◌<◌, ◌≤◌, ◌≢◌, List, [], ◌∷◌, length, Result, Ok, Err, MatchResult, inl, inr, refl, ap, sym, ◌∙◌, arith, eqb, ltb, cond, IsOk}
use Rattle.std.specs.Prelude.{is_ok}
use Rattle.std.specs.List.{AllByRecursion, insert, remove}
use Rattle.std.specs.List.Sorted.{IsSearchInRange, IsBinarySearchResult, IsNonDecreasingBy}
use Rattle.std.specs.Ordering.{nat_cmp, ordering_index}
use Rattle.std.proofs.lemmas.Cmp.{ranked}
use Rattle.std.proofs.lemmas.List.Sorted.{IsNonDecreasingBy-from_default}
use Rattle.std.proofs.lemmas.Bool.{cond-true, cond-false, eq-eqb, ne_eqb, lt-ltb, le-ltb, cases_lt}
use Rattle.std.proofs.lemmas.Bool.Decides.{nat_tests}
use Rattle.client_table.specs.{Rise, opened_at, closed_at, client_at, IsPlace, IsGap}

later_above : (k : ℕ) (l : List (ℕ × ℕ)) (j : ℕ) → AllByRecursion (λ d. k < d.0) l → j < length l → k < client_at l j
later_above k [] j all lt = absurd (omega arith)
later_above k (e ∷ l) zero all lt = all.0
later_above k (e ∷ l) (suc j) all lt = later_above k l j all.1 (omega arith)

rise_at : (l : List (ℕ × ℕ)) (i j : ℕ) → Rise l → i < j → j < length l → client_at l i < client_at l j
rise_at [] i j rise lt within = absurd (omega arith)
rise_at (e ∷ l) zero zero rise lt within = absurd (omega arith)
rise_at (e ∷ l) zero (suc j) rise lt within = later_above e.0 l j rise.0 (omega arith)
rise_at (e ∷ l) (suc i) zero rise lt within = absurd (omega arith)
rise_at (e ∷ l) (suc i) (suc j) rise lt within = rise_at l i j rise.1 (omega arith) (omega arith)

-- the comparisons with a client rise along them, as a binary search asks
comparisons_rise : (l : List (ℕ × ℕ)) (k : ℕ) → Rise l → IsNonDecreasingBy (λ e. ordering_index (nat_cmp e.0 k)) l
comparisons_rise l k rise = IsNonDecreasingBy-from_default (λ e. ordering_index (nat_cmp e.0 k)) l (0, 0) (λ i j le within.
    let up : client_at l i ≤ client_at l j = grind (arith, rise_at l i j rise, λ (same : i ≡ j). ap (client_at l) same) in
    grind (arith, nat_tests))

-- a binary search by client ends at its place, or where it would stand
pub place_found : (l : List (ℕ × ℕ)) (k : ℕ) (r : Result ℕ ℕ) → Rise l → IsSearchInRange r (length l) → IsBinarySearchResult (λ e. nat_cmp e.0 k) l r
    → MatchResult r (IsPlace k l) (IsGap k l)
place_found l k (Ok i) rise within equal = record { within = within; there = ranked _ k _ (sym (equal (0, 0))) }
place_found l k (Err i) rise within parted =
    let parts = parted (comparisons_rise l k rise) in
    record {
      within = within;
      below = λ j front. ranked _ k _ (sym (parts.0 j (0, 0) (omega (arith, within)) front));
      above = λ j back lt. ranked _ k _ (sym (parts.1 j (0, 0) back lt));
    }

-- ---- a gap
gap_later : (k : ℕ) (e : ℕ × ℕ) (l : List (ℕ × ℕ)) (i : ℕ) → IsGap k (e ∷ l) (suc i) → IsGap k l i
gap_later k e l i gap = record {
  within = omega (arith, gap.within);
  below = λ j lt. gap.below (suc j) (omega arith);
  above = λ j le lt. gap.above (suc j) (omega arith) (omega arith);
}

pub passes_open : (k key : ℕ) (e : ℕ × ℕ) (l : List (ℕ × ℕ)) → e.0 < k → opened_at k key (e ∷ l) ≡ e ∷ opened_at k key l
passes_open k key e l lt =
    cond-false (ltb k e.0) ((k, key) ∷ e ∷ l) (cond (eqb k e.0) (e ∷ l) (e ∷ opened_at k key l)) (le-ltb k e.0 (omega (arith, lt)))
    ∙ cond-false (eqb k e.0) (e ∷ l) (e ∷ opened_at k key l) (ne_eqb k e.0 (λ same. omega (arith, lt, same)))

pub opened_gap : (k key : ℕ) (l : List (ℕ × ℕ)) (i : ℕ) → IsGap k l i → insert l i (k, key) ≡ opened_at k key l
opened_gap k key [] zero gap = refl
opened_gap k key [] (suc i) gap = absurd (omega (arith, gap.within))
opened_gap k key (e ∷ l) zero gap =
    sym (cond-true (ltb k e.0) ((k, key) ∷ e ∷ l) (cond (eqb k e.0) (e ∷ l) (e ∷ opened_at k key l)) (lt-ltb k e.0 (gap.above 0 (omega arith) (omega arith))))
opened_gap k key (e ∷ l) (suc i) gap =
    ap (λ (x : List (ℕ × ℕ)). e ∷ x) (opened_gap k key l i (gap_later k e l i gap)) ∙ sym (passes_open k key e l (gap.below 0 (omega arith)))

closed_none : (k : ℕ) (l : List (ℕ × ℕ)) → ((j : ℕ) → j < length l → client_at l j ≢ k) → closed_at k l ≡ l
closed_none k [] other = refl
closed_none k (e ∷ l) other =
    cond-false (eqb k e.0) l (e ∷ closed_at k l) (ne_eqb k e.0 (λ same. other 0 (omega arith) (sym same)))
    ∙ ap (λ (x : List (ℕ × ℕ)). e ∷ x) (closed_none k l (λ j lt. other (suc j) (omega arith)))

pub closed_gap : (k : ℕ) (l : List (ℕ × ℕ)) (i : ℕ) → IsGap k l i → l ≡ closed_at k l
closed_gap k l i gap = sym (closed_none k l (λ j lt same. elim (cases_lt j i) [
  | inl front ↦ omega (arith, gap.below j front, same)
  | inr back ↦ omega (arith, gap.above j back lt, same)
]))

-- ---- a place
pub opened_place : (k key : ℕ) (l : List (ℕ × ℕ)) (i : ℕ) → Rise l → IsPlace k l i → l ≡ opened_at k key l
opened_place k key [] i rise place = absurd (omega (arith, place.within))
opened_place k key (e ∷ l) zero rise place =
    sym (cond-false (ltb k e.0) ((k, key) ∷ e ∷ l) (cond (eqb k e.0) (e ∷ l) (e ∷ opened_at k key l)) (le-ltb k e.0 (omega (arith, place.there)))
    ∙ cond-true (eqb k e.0) (e ∷ l) (e ∷ opened_at k key l) (eq-eqb k e.0 (sym place.there)))
opened_place k key (e ∷ l) (suc i) rise place =
    ap (λ (x : List (ℕ × ℕ)). e ∷ x) (opened_place k key l i rise.1 (record { within = omega (arith, place.within); there = place.there }))
    ∙ sym (passes_open k key e l (omega (arith, later_above e.0 l i rise.0 (omega (arith, place.within)), place.there)))

pub closed_place : (k : ℕ) (l : List (ℕ × ℕ)) (i : ℕ) → Rise l → IsPlace k l i → remove l i ≡ closed_at k l
closed_place k [] i rise place = absurd (omega (arith, place.within))
closed_place k (e ∷ l) zero rise place = sym (cond-true (eqb k e.0) l (e ∷ closed_at k l) (eq-eqb k e.0 (sym place.there)))
closed_place k (e ∷ l) (suc i) rise place =
    ap (λ (x : List (ℕ × ℕ)). e ∷ x) (closed_place k l i rise.1 (record { within = omega (arith, place.within); there = place.there }))
    ∙ sym (cond-false (eqb k e.0) l (e ∷ closed_at k l) (ne_eqb k e.0 (λ same. omega (arith, later_above e.0 l i rise.0 (omega (arith, place.within)), place.there, same))))

-- what always goes in went in
pub went_in : {E : Type 0} (r : Result (Unit {0}) E) (new inside outside : List (ℕ × ℕ)) → IsOk r → new ≡ cond (is_ok r) inside outside → new ≡ inside
went_in (Ok done) new inside outside ok is = is
went_in (Err fault) new inside outside ok is = cc
