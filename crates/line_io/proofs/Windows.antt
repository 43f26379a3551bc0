-- The window of a buffer, after a write behind it.
use Rattle.std.proofs.Common.{◌≡◌, ℕ, ◌+◌, ◌-◌, ◌≤◌, List, ◌++◌, take, drop, slice_range, sym, ap, ◌∙◌, arith, take-add, take-take, drop-drop}
use Rattle.std.proofs.lemmas.Slice.{between_is}

-- the same front, the same window within it
pub slice_range-front : (xs ys : List ℕ) (from at : ℕ) → take at ys ≡ take at xs → slice_range ys from at ≡ slice_range xs from at
slice_range-front xs ys from at front =
    between_is ys from at ∙ ap (drop from) front ∙ sym (between_is xs from at)

slice_range-more : (xs : List ℕ) (from at n : ℕ) → from ≤ at → slice_range xs from (at + n) ≡ slice_range xs from at ++ take n (drop at xs)
slice_range-more xs from at n ordered =
    let sum : at + n - from ≡ (at - from) + n = omega arith in
    let parts : from + (at - from) ≡ at = omega arith in
    ap (λ k. take k (drop from xs)) sum ∙ take-add (at - from) n (drop from xs)
    ∙ ap (λ (t : List ℕ). slice_range xs from at ++ take n t) (drop-drop (at - from) from xs ∙ ap (λ k. drop k xs) parts)

-- the window grows by what was taken behind it
pub slice_range-grown : (kept xs ys : List ℕ) (from at n : ℕ) → from ≤ at → kept ≡ slice_range xs from at → take at ys ≡ take at xs
    → slice_range ys from (at + n) ≡ kept ++ take n (drop at ys)
slice_range-grown kept xs ys from at n ordered is front =
    slice_range-more ys from at n ordered ∙ ap (λ (t : List ℕ). t ++ take n (drop at ys)) (slice_range-front xs ys from at front ∙ sym is)

-- the window without its first bytes
pub slice_range-drop : (xs : List ℕ) (from to n : ℕ) → slice_range xs (from + n) to ≡ drop n (slice_range xs from to)
slice_range-drop xs from to n = between_is xs (from + n) to ∙ sym (drop-drop n from (take to xs)) ∙ ap (drop n) (sym (between_is xs from to))

-- the front of the window
pub slice_range-take : (xs : List ℕ) (from to n : ℕ) → from + n ≤ to → slice_range xs from (from + n) ≡ take n (slice_range xs from to)
slice_range-take xs from to n within =
    let size : from + n - from ≡ n = omega arith in
    ap (λ k. take k (drop from xs)) size ∙ sym (take-take n (to - from) (drop from xs) (omega arith))
