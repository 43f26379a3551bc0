-- One lower-case digit: what it stands for, and how it is written.
use Rattle.std.proofs.Common.{◌≡◌, ℕ, ◌%◌, ◌+◌, ◌-◌, ◌^◌, ◌<◌, Bool, true, false, ◌&&◌, ◌||◌, ◌==◌, not, nat_le, nat_lt, cond, ltb, slice_index, Some, refl, arith, suc, zero, inl, inr}
use Rattle.std.proofs.lemmas.Bool.{and_parts, cases_lt, eqb-true}
use Rattle.std.proofs.lemmas.Bool.Decides.{nat_tests}
use lib.Lanes.{top}
use mathlib.Core.Bool.{beq}
use Rattle.hex.specs.Hex.{lower_digits, hex_digit_value}
use Rattle.hex_text.specs.{is_lower_digit, value_of}

-- a test that each number below n passes, computed
abbrev all_below : (ℕ → Bool) → ℕ → Bool
all_below test zero = true
all_below test (suc n) = test n && all_below test n

below_at : (test : ℕ → Bool) (n k : ℕ) → all_below test n ≡ true → k < n → test k ≡ true
below_at test zero k h lt = absurd (omega arith)
below_at test (suc n) k h lt =
    let parts = and_parts (test n) (all_below test n) h in
    elim (cases_lt k n) [
      | inl below ↦ below_at test n k parts.1 below
      | inr top ↦
          let e : k ≡ n = omega arith in
          rw e parts.0
    ]

-- a lower-case digit is one that stands for less than 16
pub is_lower-value_of : (c : ℕ) → nat_lt (value_of c) 16 ≡ is_lower_digit c
is_lower-value_of c = grind (arith, nat_tests)

-- it stands for what the decoder says
pub hex_digit_value-lower : (c : ℕ) → is_lower_digit c ≡ true → hex_digit_value c ≡ Some (value_of c % 16)
hex_digit_value-lower c h = grind (arith, nat_tests)

below_103 : (c : ℕ) → is_lower_digit c ≡ true → c < 103
below_103 c h = grind (arith, nat_tests)

implied : (a b : Bool) → a ≡ true → (not a || b) ≡ true → b ≡ true
implied true b e h = h
implied false b e h = absurd cc

-- and it is written as itself
pub lower_digits-value_of : (c : ℕ) → is_lower_digit c ≡ true → slice_index lower_digits (value_of c % 16) ≡ c
lower_digits-value_of c h =
    let test = below_at (λ k. not (is_lower_digit k) || (slice_index lower_digits (value_of k % 16) == k)) 103 c refl (below_103 c h) in
    eqb-true (slice_index lower_digits (value_of c % 16)) c (implied (is_lower_digit c) _ h test)

-- the digit of a number below 16 is lower-case
pub is_lower-lower_digits : (d : ℕ) → d < 16 → is_lower_digit (slice_index lower_digits d) ≡ true
is_lower-lower_digits d lt = below_at (λ k. is_lower_digit (slice_index lower_digits k)) 16 d refl lt

abbrev pub less : ℕ → ℕ → ℕ
less a b = (a + (2 ^ 8 - b)) % 2 ^ 8

abbrev pub below_mask : ℕ → ℕ → ℕ
below_mask a b = cond (ltb a b) 255 0

-- what it stands for, by its distances from `0` and from ten before `a`
pub lesser_value : (c : ℕ) → is_lower_digit c ≡ true → cond (top 7 (below_mask (less c 48) (less c 87))) (less c 48) (less c 87) ≡ value_of c
lesser_value c h =
    let test = below_at (λ k. not (is_lower_digit k) || (cond (top 7 (below_mask (less k 48) (less k 87))) (less k 48) (less k 87) == value_of k)) 103 c refl (below_103 c h) in
    eqb-true _ (value_of c) (implied (is_lower_digit c) _ h test)

same : (a b : Bool) → beq a b ≡ true → a ≡ b
same true true e = refl
same true false e = absurd cc
same false true e = absurd cc
same false false e = refl

-- a byte is one where it is none of what lies outside
pub is_lower-extremes : (c : ℕ) → c < 256 → (nat_le 48 c && (nat_le c 102 && nat_le (less c 97) 216)) ≡ is_lower_digit c
is_lower-extremes c byte =
    same _ _ (below_at (λ k. beq (nat_le 48 k && (nat_le k 102 && nat_le (less k 97) 216)) (is_lower_digit k)) 256 c refl byte)
