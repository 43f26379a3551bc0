-- The bytes of 32 digits, out of a vector.
use Rattle.std.proofs.Common.{◌≡◌, ℕ, ◌+◌, ◌*◌, ◌/◌, ◌%◌, ◌<◌, true, List, [], ◌∷◌, length, map, take, drop, replicate, refl, suc, zero, ◌∙◌, arith}
use Rattle.std.proofs.lemmas.Bool.{and_parts}
use Rattle.std.proofs.lemmas.Bool.Decides.{nat_tests}
use Rattle.std.specs.List.{list_all}
use lib.Lanes.{Each1, zip2, sel_l, top, number_l, digits_l}
use Rattle.hex_text.specs.{is_lower_digit, joined_values, value_of, pair_byte, pair_bytes}
use Rattle.hex_text.proofs.Digits.{below_mask, is_lower-value_of, less, lesser_value}

abbrev pub AreLower : List ℕ → Type 0
AreLower digits = Each1 (λ d. is_lower_digit d ≡ true) digits

pub lower_front : (n : ℕ) (digits : List ℕ) → list_all is_lower_digit digits ≡ true → list_all is_lower_digit (take n digits) ≡ true
lower_front zero digits lower = refl
lower_front (suc n) [] lower = refl
lower_front (suc n) (d ∷ digits) lower =
    let parts = and_parts (is_lower_digit d) (list_all is_lower_digit digits) lower in
    rw (parts.0, lower_front n digits parts.1) refl

pub lower_rest : (n : ℕ) (digits : List ℕ) → list_all is_lower_digit digits ≡ true → list_all is_lower_digit (drop n digits) ≡ true
lower_rest zero digits lower = lower
lower_rest (suc n) [] lower = refl
lower_rest (suc n) (d ∷ digits) lower = lower_rest n digits (and_parts (is_lower_digit d) (list_all is_lower_digit digits) lower).1

pub are_lower : (digits : List ℕ) → list_all is_lower_digit digits ≡ true → AreLower digits
are_lower [] lower = tt
are_lower (d ∷ digits) lower =
    let parts = and_parts (is_lower_digit d) (list_all is_lower_digit digits) lower in
    (parts.0, are_lower digits parts.1)

-- what digits stand for, lane by lane
pub values_computed : (n : ℕ) (digits : List ℕ) → length digits ≡ n → AreLower digits
    → sel_l (map (top 7) (zip2 below_mask (zip2 less digits (replicate n 48)) (zip2 less digits (replicate n 87)))) (zip2 less digits (replicate n 48)) (zip2 less digits (replicate n 87)) ≡ map value_of digits
values_computed zero [] long lower = refl
values_computed zero (d ∷ digits) long lower = absurd (omega arith)
values_computed (suc n) [] long lower = absurd (omega arith)
values_computed (suc n) (d ∷ digits) long lower = rw (lesser_value d lower.0, values_computed n digits (omega arith) lower.1) refl

pub values_small : (digits : List ℕ) → AreLower digits → Each1 (λ v. v < 16) (map value_of digits)
values_small [] lower = tt
values_small (d ∷ digits) lower =
    let small = is_lower-value_of d ∙ lower.0 in
    (grind (arith, nat_tests, small), values_small digits lower.1)

-- ---- the bytes of pairs

-- a pair, as the word of its two bytes
abbrev pub joined : ℕ → ℕ
joined pair = (pair * 4096 % 65536 + pair) % 65536 / 256

pub pairs_joined : (n : ℕ) (values : List ℕ) → length values ≡ 2 * n → Each1 (λ v. v < 16) values
    → map joined (digits_l 65536 n (number_l 256 values)) ≡ joined_values values
pairs_joined zero [] long small = refl
pairs_joined zero (v ∷ values) long small = absurd (omega arith)
pairs_joined (suc n) [] long small = absurd (omega arith)
pairs_joined (suc n) (v ∷ []) long small = absurd (omega arith)
pairs_joined (suc n) (high ∷ low ∷ values) long small =
    let rest = number_l 256 values in
    let first : (high + 256 * (low + 256 * rest)) % 65536 ≡ high + 256 * low = omega (arith, small.0, small.1.0) in
    let others : (high + 256 * (low + 256 * rest)) / 65536 ≡ rest = omega (arith, small.0, small.1.0) in
    let byte : joined (high + 256 * low) ≡ high * 16 + low = omega (arith, small.0, small.1.0) in
    rw (first, others, byte, pairs_joined n values (omega arith) small.1.1) refl

pub values_joined : (digits : List ℕ) → AreLower digits → joined_values (map value_of digits) ≡ pair_bytes digits
unfolding pair_bytes
values_joined [] lower = refl
values_joined (d ∷ []) lower = refl
values_joined (high ∷ low ∷ digits) lower =
    let a = is_lower-value_of high ∙ lower.0 in
    let b = is_lower-value_of low ∙ lower.1.0 in
    let byte : value_of high * 16 + value_of low ≡ pair_byte high low = grind (arith, nat_tests, a, b) in
    rw (byte, values_joined digits lower.1.1) refl
