-- What packets that wait by rising number are as pieces.
use Rattle.std.proofs.Common.{◌≡◌, ℕ, zero, suc, ◌+◌, ◌-◌, ◌<◌, ◌≤◌, ◌≢◌, Bool, true, false, ◌||◌, cond, slice_index_or, List, [], ◌∷◌, length, Some, None, Result, Ok, Err, MatchResult, refl, ap, sym, ◌∙◌, arith, eqb, ltb}
use Rattle.std.specs.List.{insert}
use Rattle.std.specs.List.Sorted.{IsSearchInRange, IsBinarySearchResult, IsNonDecreasingBy}
use Rattle.std.specs.Ordering.{nat_cmp, ordering_index}
use Rattle.std.proofs.lemmas.Cmp.{ranked}
use Rattle.std.proofs.lemmas.List.{get_or_default}
use Rattle.std.proofs.lemmas.List.Sorted.{IsNonDecreasingBy-from_default}
use Rattle.std.proofs.lemmas.Bool.{cond-true, cond-false, eq-eqb, eqb-true, ne_eqb, lt-ltb, le-ltb, or_from}
use Rattle.std.proofs.lemmas.Bool.Decides.{nat_tests}
use Rattle.receiver_core.specs.declared.shown.Shown.{Shown}
use Rattle.rams_model.specs.Receiver.{Piece, piece, has_piece, with_piece, piece_at, without_piece, last_number}
use Rattle.receiver_core.specs.{pieces_of, Rise, number_at, IsPlace, IsGap, AreBelow}

-- none, which clauses write as the default
abbrev nothing : Shown
nothing = record { n = 0; packet = [] }

-- numbers that rise from one on rise from a lower one on
pub rise_from : (m n : ℕ) (l : List Shown) → m ≤ n → Rise n l → Rise m l
rise_from m n [] le rise = tt
rise_from m n (s ∷ l) le rise = (omega (arith, le, rise.0), rise.1)

later : (m : ℕ) (l : List Shown) (j : ℕ) → Rise m l → j < length l → m ≤ number_at l j
later m [] j rise lt = absurd (omega arith)
later m (s ∷ l) zero rise lt = rise.0
later m (s ∷ l) (suc j) rise lt = omega (arith, rise.0, later (s.n + 1) l j rise.1 (omega arith))

pub rise_at : (m : ℕ) (l : List Shown) (i j : ℕ) → Rise m l → i < j → j < length l → number_at l i < number_at l j
rise_at m [] i j rise lt within = absurd (omega arith)
rise_at m (s ∷ l) zero zero rise lt within = absurd (omega arith)
rise_at m (s ∷ l) zero (suc j) rise lt within = omega (arith, later (s.n + 1) l j rise.1 (omega arith))
rise_at m (s ∷ l) (suc i) zero rise lt within = absurd (omega arith)
rise_at m (s ∷ l) (suc i) (suc j) rise lt within = rise_at (s.n + 1) l i j rise.1 (omega arith) (omega arith)

-- the comparisons with a number rise along them, as a binary search asks
comparisons_rise : (m : ℕ) (l : List Shown) (n : ℕ) → Rise m l → IsNonDecreasingBy (λ s. ordering_index (nat_cmp s.n n)) l
comparisons_rise m l n rise = IsNonDecreasingBy-from_default (λ s. ordering_index (nat_cmp s.n n)) l nothing (λ i j le within.
    let up : number_at l i ≤ number_at l j = grind (arith, rise_at m l i j rise, λ (same : i ≡ j). ap (number_at l) same) in
    grind (arith, nat_tests))

-- a binary search by number ends in its place, or where it would wait
pub place_found : (l : List Shown) (n : ℕ) (r : Result ℕ ℕ) → Rise 0 l → IsSearchInRange r (length l) → IsBinarySearchResult (λ s. nat_cmp s.n n) l r
    → MatchResult r (IsPlace n l) (IsGap n l)
place_found l n (Ok i) rise within equal = record { within = within; there = ranked _ n _ (sym (equal nothing)) }
place_found l n (Err i) rise within parted =
    let parts = parted (comparisons_rise 0 l n rise) in
    record {
      within = within;
      below = λ j front. ranked _ n _ (sym (parts.0 j nothing (omega (arith, within)) front));
      above = λ j back lt. ranked _ n _ (sym (parts.1 j nothing back lt));
    }

-- a number above the last would wait behind it
pub behind_last : (l : List Shown) (n : ℕ) → Rise 0 l → (0 < length l → number_at l (length l - 1) < n) → IsGap n l (length l)
behind_last l n rise last = record {
  within = omega arith;
  below = λ j lt.
      let few : 0 < length l = omega (arith, lt) in
      let up : number_at l j ≤ number_at l (length l - 1) = grind (arith, lt, rise_at 0 l j (length l - 1) rise, λ (same : j ≡ length l - 1). ap (number_at l) same) in
      omega (arith, up, last few);
  above = λ j le lt. absurd (omega (arith, le, lt));
}

gap_later : (n : ℕ) (s : Shown) (l : List Shown) (i : ℕ) → IsGap n (s ∷ l) (suc i) → IsGap n l i
gap_later n s l i gap = record {
  within = omega (arith, gap.within);
  below = λ j lt. gap.below (suc j) (omega arith);
  above = λ j le lt. gap.above (suc j) (omega arith) (omega arith);
}

-- ---- a number that waits
pub has_place : (n : ℕ) (l : List Shown) (i : ℕ) → IsPlace n l i → has_piece n (pieces_of l) ≡ true
has_place n [] i place = absurd (omega (arith, place.within))
has_place n (s ∷ l) zero place = step (eqb s.n n) (eq-eqb s.n n place.there)
  where
    step : (same : Bool) → same ≡ true → (same || has_piece n (pieces_of l)) ≡ true
    step true e = refl
    step false e = absurd cc
has_place n (s ∷ l) (suc i) place = step (eqb s.n n) (has_place n l i (record { within = omega (arith, place.within); there = place.there }))
  where
    step : (same : Bool) → has_piece n (pieces_of l) ≡ true → (same || has_piece n (pieces_of l)) ≡ true
    step true e = refl
    step false e = e

-- ---- a number that doesn't
other : (n : ℕ) (s : Shown) (l : List Shown) (i : ℕ) → IsGap n (s ∷ l) i → eqb s.n n ≡ false
other n s l zero gap = ne_eqb s.n n (λ same. omega (arith, gap.above 0 (omega arith) (omega arith), same))
other n s l (suc i) gap = ne_eqb s.n n (λ same. omega (arith, gap.below 0 (omega arith), same))

gap_first : (n : ℕ) (s : Shown) (l : List Shown) → IsGap n (s ∷ l) 0 → IsGap n l 0
gap_first n s l gap = record {
  within = omega arith;
  below = λ j lt. absurd (omega (arith, lt));
  above = λ j le lt. gap.above (suc j) (omega arith) (omega arith);
}

pub has_gap : (n : ℕ) (l : List Shown) (i : ℕ) → IsGap n l i → has_piece n (pieces_of l) ≡ false
has_gap n [] i gap = refl
has_gap n (s ∷ l) zero gap = or_from (eqb s.n n) (has_piece n (pieces_of l)) (other n s l 0 gap) (has_gap n l 0 (gap_first n s l gap))
has_gap n (s ∷ l) (suc i) gap = or_from (eqb s.n n) (has_piece n (pieces_of l)) (other n s l (suc i) gap) (has_gap n l i (gap_later n s l i gap))

pub with_gap : (n : ℕ) (packet : List ℕ) (l : List Shown) (i : ℕ) → IsGap n l i → with_piece (piece n packet) (pieces_of l) ≡ pieces_of (insert l i (record { n = n; packet = packet }))
unfolding with_piece
with_gap n packet [] zero gap = refl
with_gap n packet [] (suc i) gap = absurd (omega (arith, gap.within))
with_gap n packet (s ∷ l) zero gap =
    cond-true (ltb n s.n) (piece n packet ∷ piece s.n s.packet ∷ pieces_of l) (piece s.n s.packet ∷ with_piece (piece n packet) (pieces_of l)) (lt-ltb n s.n (gap.above 0 (omega arith) (omega arith)))
with_gap n packet (s ∷ l) (suc i) gap =
    cond-false (ltb n s.n) (piece n packet ∷ piece s.n s.packet ∷ pieces_of l) (piece s.n s.packet ∷ with_piece (piece n packet) (pieces_of l)) (le-ltb n s.n (omega (arith, gap.below 0 (omega arith))))
    ∙ ap (λ (qs : List Piece). piece s.n s.packet ∷ qs) (with_gap n packet l i (gap_later n s l i gap))

-- it may come to wait there
pub rise_with : (m n : ℕ) (packet : List ℕ) (l : List Shown) (i : ℕ) → Rise m l → m ≤ n → IsGap n l i → Rise m (insert l i (record { n = n; packet = packet }))
rise_with m n packet [] zero rise le gap = (le, tt)
rise_with m n packet [] (suc i) rise le gap = absurd (omega (arith, gap.within))
rise_with m n packet (s ∷ l) zero rise le gap = (le, (omega (arith, gap.above 0 (omega arith) (omega arith)), rise.1))
rise_with m n packet (s ∷ l) (suc i) rise le gap = (rise.0, rise_with (s.n + 1) n packet l i rise.1 (omega (arith, gap.below 0 (omega arith))) (gap_later n s l i gap))

-- ---- what is in front
pub read_at : (s : Shown) (l : List Shown) (i : ℕ) → s ≡ slice_index_or l i s → i < length l → s.n ≡ number_at l i
read_at s l i e lt = ap (λ (t : Shown). t.n) (e ∙ get_or_default l i s nothing lt)

pub none_below : (n m : ℕ) (l : List Shown) → n < m → Rise m l → piece_at n (pieces_of l) ≡ None
none_below n m [] lt rise = refl
none_below n m (s ∷ l) lt rise =
    cond-false (eqb s.n n) (Some (piece s.n s.packet)) (piece_at n (pieces_of l)) (ne_eqb s.n n (λ same. omega (arith, lt, rise.0, same)))
    ∙ none_below n (s.n + 1) l (omega (arith, lt, rise.0)) rise.1

pub front_other : (n : ℕ) (l : List Shown) → Rise n l → 0 < length l → number_at l 0 ≢ n → piece_at n (pieces_of l) ≡ None
front_other n [] rise some not_it = absurd (omega (arith, some))
front_other n (s ∷ l) rise some not_it =
    cond-false (eqb s.n n) (Some (piece s.n s.packet)) (piece_at n (pieces_of l)) (ne_eqb s.n n not_it)
    ∙ none_below n (s.n + 1) l (omega (arith, rise.0)) rise.1

pub front_at : (n : ℕ) (s : Shown) (l : List Shown) → s.n ≡ n → piece_at n (pieces_of (s ∷ l)) ≡ Some (piece s.n s.packet)
front_at n s l same = cond-true (eqb s.n n) (Some (piece s.n s.packet)) (piece_at n (pieces_of l)) (eq-eqb s.n n same)

pub without_front : (n : ℕ) (s : Shown) (l : List Shown) → s.n ≡ n → without_piece n (pieces_of (s ∷ l)) ≡ pieces_of l
unfolding without_piece
without_front n s l same = cond-true (eqb s.n n) (pieces_of l) (piece s.n s.packet ∷ without_piece n (pieces_of l)) (eq-eqb s.n n same)

-- ---- the last
pub last_of : (n : ℕ) (l : List Shown) → 0 < length l → last_number n (pieces_of l) ≡ number_at l (length l - 1)
unfolding last_number
last_of n [] some = absurd (omega (arith, some))
last_of n (s ∷ []) some = refl
last_of n (s ∷ t ∷ l) some =
    let place : length (s ∷ t ∷ l) - 1 ≡ suc (length (t ∷ l) - 1) = omega arith in
    last_of s.n (t ∷ l) (omega arith) ∙ ap (number_at (s ∷ t ∷ l)) (sym place)

pub no_last : (n : ℕ) (l : List Shown) → (0 < length l → ⊥) → last_number n (pieces_of l) ≡ n
unfolding last_number
no_last n [] none = refl
no_last n (s ∷ l) none = absurd (none (omega arith))

-- ---- those with numbers below one
pub none_passed : (n : ℕ) (l : List Shown) → Rise n l → AreBelow n l 0
none_passed n l rise = record { within = omega arith; below = λ k lt. absurd (omega (arith, lt)); others = λ k le lt. later n l k rise lt }

-- the first of the others has the number, or none has it
pub passes_one : (n : ℕ) (l : List Shown) (i : ℕ) → Rise 0 l → AreBelow n l i → i < length l → number_at l i ≡ n → AreBelow (n + 1) l (i + 1)
passes_one n l i rise b lt there = record {
  within = omega (arith, lt);
  below = λ k less. grind (arith, there, less, b.below k, λ (same : k ≡ i). ap (number_at l) same);
  others = λ k le within. omega (arith, there, rise_at 0 l i k rise (omega (arith, le)) within);
}

pub other_gap : (n : ℕ) (l : List Shown) (i : ℕ) → Rise 0 l → AreBelow n l i → (i < length l → number_at l i ≢ n) → IsGap n l i
other_gap n l i rise b other = record {
  within = b.within;
  below = b.below;
  above = λ k le lt.
      let here : i < length l = omega (arith, le, lt) in
      let first : n < number_at l i = omega (arith, b.others i (omega arith) here, other here) in
      let up : number_at l i ≤ number_at l k = grind (arith, le, lt, rise_at 0 l i k rise, λ (same : i ≡ k). ap (number_at l) same) in
      omega (arith, first, up);
}

pub passes_none : (n : ℕ) (l : List Shown) (i : ℕ) → AreBelow n l i → IsGap n l i → AreBelow (n + 1) l i
passes_none n l i b gap = record {
  within = b.within;
  below = λ k lt. omega (arith, b.below k lt);
  others = λ k le lt. omega (arith, gap.above k le lt);
}

here_or_nowhere_by : (n : ℕ) (s : Shown) (l : List Shown) (i : ℕ) → Rise 0 l → AreBelow n l i → i < length l → s.n ≡ number_at l i
    → (same : Bool) → eqb s.n n ≡ same → (same ≡ has_piece n (pieces_of l)) × AreBelow (n + 1) l (cond same (i + 1) i)
here_or_nowhere_by n s l i rise b lt here true e =
    let there : number_at l i ≡ n = sym here ∙ eqb-true s.n n e in
    (sym (has_place n l i (record { within = lt; there = there })), passes_one n l i rise b lt there)
here_or_nowhere_by n s l i rise b lt here false e =
    let gap : IsGap n l i = other_gap n l i rise b (λ within same. let no : false ≡ true = sym e ∙ eq-eqb s.n n (here ∙ same) in cc) in
    (sym (has_gap n l i gap), passes_none n l i b gap)

-- the packet behind those that are below a number tells whether that number waits
pub here_or_nowhere : (n : ℕ) (s : Shown) (l : List Shown) (i : ℕ) → Rise 0 l → AreBelow n l i → i < length l → s.n ≡ number_at l i → eqb s.n n ≡ has_piece n (pieces_of l)
here_or_nowhere n s l i rise b lt here = (here_or_nowhere_by n s l i rise b lt here (eqb s.n n) refl).0

pub passes_here : (n : ℕ) (s : Shown) (l : List Shown) (i : ℕ) → Rise 0 l → AreBelow n l i → i < length l → s.n ≡ number_at l i → AreBelow (n + 1) l (cond (eqb s.n n) (i + 1) i)
passes_here n s l i rise b lt here = (here_or_nowhere_by n s l i rise b lt here (eqb s.n n) refl).1
