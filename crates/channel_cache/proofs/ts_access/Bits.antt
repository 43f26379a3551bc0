-- A bit of a byte, by a mask and by a quotient.
use Rattle.std.proofs.Common.{◌≡◌, ◌≢◌, ℕ, ◌/◌, ◌%◌, ◌^◌, not, nat_eq, bit_and, sym, ◌∙◌, arith}
use Rattle.std.proofs.lemmas.Bool.Decides.{nat_tests}
use Rattle.std.proofs.lemmas.Nat.{bit_set_by_shift, and_mask}

same_test : (bit shift : ℕ) → (shift ≡ 1 → bit ≢ 0) → (bit ≢ 0 → shift ≡ 1) → not (nat_eq bit 0) ≡ nat_eq shift 1
same_test bit shift f g = grind (arith, nat_tests, f, g)

-- the bit is set where the quotient is odd
pub bit_by_quotient : (n k : ℕ) → not (nat_eq (bit_and n (2 ^ k)) 0) ≡ nat_eq (n / 2 ^ k % 2) 1
bit_by_quotient n k = same_test (bit_and n (2 ^ k)) (n / 2 ^ k % 2)
    (λ h. (bit_set_by_shift n k).0 (and_mask (n / 2 ^ k) 1 ∙ h))
    (λ h. sym (and_mask (n / 2 ^ k) 1) ∙ (bit_set_by_shift n k).1 h)
