-- The digits of 16 bytes, out of two vectors.
use Rattle.std.proofs.Common.{◌≡◌, ℕ, ◌+◌, ◌-◌, ◌*◌, ◌/◌, ◌^◌, ◌<◌, List, [], ◌∷◌, ◌++◌, length, map, take, drop, get_or, replicate, slice_index, bit_and, w8, refl, sym, suc, zero, ◌∙◌, ap, arith}
use Rattle.std.proofs.lemmas.List.{drop_all, drop_more, take_all, get_or_append_left, get_or-append_right, get_or-map, length-map, ext_get_or}
use Rattle.std.proofs.lemmas.Nat.{and_mask}
use Rattle.std.proofs.lemmas.Simd.{swz_l, length-swz_l, get_or-swz_l_below, zip2_splat}
use lib.Lanes.{Each1, zip2}
use Rattle.hex.specs.Hex.{encode_lower, encode_with, lower_digits}

each_at : (js : List ℕ) (i : ℕ) → Each1 (λ n. n < 16) js → i < length js → get_or js i 0 < 16
each_at [] i small within = absurd (omega arith)
each_at (j ∷ js) zero small within = small.0
each_at (j ∷ js) (suc i) small within = each_at js i small.1 (omega arith)

-- what a table of 16 digits gives, lane by lane
pub looked_up : (js : List ℕ) → length js ≡ 16 → Each1 (λ n. n < 16) js → swz_l w8 16 lower_digits 0 js ≡ map (slice_index lower_digits) js
looked_up js long small =
    ext_get_or 0 _ _ (length-swz_l w8 16 lower_digits 0 js ∙ sym (length-map js (slice_index lower_digits))) (λ i within.
    let inside : i < length js = omega (arith, length-swz_l w8 16 lower_digits 0 js) in
    let place : 16 * ((0 + i) / 16) + get_or js i 0 ≡ get_or js i 0 = omega arith in
    get_or-swz_l_below w8 16 lower_digits 0 js i inside (each_at js i small inside)
    ∙ ap (λ k. get_or lower_digits k 0) place
    ∙ sym (get_or-map (slice_index lower_digits) js i 0 0 inside))

-- n pairs, each of an item and of the one 16 places behind it
abbrev pub paired : List ℕ → ℕ → ℕ → List ℕ
paired xs at zero = []
paired xs at (suc n) = get_or xs at 0 ∷ get_or xs (at + 16) 0 ∷ paired xs (at + 1) n

-- the first item of the one, the first of the other, the second of the one, and so on
abbrev pub in_turn : List ℕ → List ℕ → List ℕ
in_turn [] others = []
in_turn (x ∷ xs) [] = []
in_turn (x ∷ xs) (y ∷ ys) = x ∷ y ∷ in_turn xs ys

paired-in_turn : (n at : ℕ) (xs ys : List ℕ) → length xs ≡ 16 → length ys ≡ 16 → at + n ≡ 16 → paired (xs ++ ys) at n ≡ in_turn (drop at xs) (drop at ys)
paired-in_turn zero at xs ys long other all = rw (drop_all at xs (omega arith)) refl
paired-in_turn (suc n) at xs ys long other all =
    let first = get_or_append_left xs ys 0 at (omega arith) in
    let second = get_or-append_right xs ys 16 (at + 16) 0 long (omega arith) in
    let same : at + 16 - 16 ≡ at = omega arith in
    let rest = paired-in_turn n (at + 1) xs ys long other (omega arith) in
    rw (drop_more xs at 0 (omega arith), drop_more ys at 0 (omega arith), first, second, same, rest) refl

abbrev pub down : ℕ → ℕ → ℕ
down a b = a / 2 ^ b

digits-in_turn : (bytes : List ℕ) → in_turn (map (slice_index lower_digits) (map (λ b. down b 4) bytes)) (map (slice_index lower_digits) (map (λ b. bit_and b 15) bytes)) ≡ encode_lower bytes
unfolding encode_with
digits-in_turn [] = refl
digits-in_turn (b ∷ bytes) = rw (and_mask b 4, digits-in_turn bytes) refl

-- the vectors of first digits and of second ones, with their lanes in turn
pub digits_paired : (bytes highs lows : List ℕ) → length bytes ≡ 16
    → highs ≡ map (slice_index lower_digits) (zip2 down (take 16 bytes) (replicate 16 4))
    → lows ≡ map (slice_index lower_digits) (zip2 bit_and (take 16 bytes) (replicate 16 15))
    → paired (highs ++ lows) 0 16 ≡ encode_lower bytes
digits_paired bytes highs lows long high low =
    let all = take_all 16 bytes (omega arith) in
    let h : highs ≡ map (slice_index lower_digits) (map (λ b. down b 4) bytes) = high ∙ ap (λ bs. map (slice_index lower_digits) (zip2 down bs (replicate 16 4))) all ∙ ap (map (slice_index lower_digits)) (zip2_splat down bytes 16 4 long) in
    let l : lows ≡ map (slice_index lower_digits) (map (λ b. bit_and b 15) bytes) = low ∙ ap (λ bs. map (slice_index lower_digits) (zip2 bit_and bs (replicate 16 15))) all ∙ ap (map (slice_index lower_digits)) (zip2_splat bit_and bytes 16 15 long) in
    let h_long : length highs ≡ 16 = ap length h ∙ length-map (map (λ b. down b 4) bytes) (slice_index lower_digits) ∙ length-map bytes (λ b. down b 4) ∙ long in
    let l_long : length lows ≡ 16 = ap length l ∙ length-map (map (λ b. bit_and b 15) bytes) (slice_index lower_digits) ∙ length-map bytes (λ b. bit_and b 15) ∙ long in
    paired-in_turn 16 0 highs lows h_long l_long (omega arith)
    ∙ rw (h, l) (digits-in_turn bytes)
