-- Eight hexadecimal digits and the number that they stand for.
use Rattle.std.proofs.Common.{◌≡◌, ℕ, ◌^◌, ◌<◌, true, ◌&&◌, ◌==◌, List, length, Some, sym, ap, ◌∙◌, arith, suc, zero}
use Rattle.std.proofs.lemmas.Bool.{and_parts, eqb-true}
use Rattle.std.proofs.lemmas.Bool.Decides.{nat_tests}
use Rattle.std.proofs.lemmas.Nat.{be_bytes_4, from_be_bytes-to_be_bytes_4}
use Rattle.std.specs.Int.{w32, to_be_bytes, from_be_bytes}
use Rattle.std.specs.List.{list_all}
use Rattle.hex.specs.Hex.{encode_lower, lower_digits, IsBytes}
use Rattle.hex.proofs.HexLemmas.{length-encode_with}
use Rattle.hex_text.specs.{is_lower_hex}
use Rattle.hex_text.proofs.Written.{written_decodes, written_is_lower, lower_is_written}
use Rattle.rams_model.specs.Texts.{is_hex_digit, bytes_in, decoded, word32, word32_in, is_word32}
use Rattle.trace_lines.proofs.Spelled.{some_if, if_some, and_both}

bytes_32 : (n : ℕ) → n < 2 ^ 32 → IsBytes (to_be_bytes w32 n)
bytes_32 n small zero = omega arith
bytes_32 n small (suc zero) = omega arith
bytes_32 n small (suc (suc zero)) = omega arith
bytes_32 n small (suc (suc (suc zero))) = omega arith
bytes_32 n small (suc (suc (suc (suc i)))) = omega arith

word32_lt : (n : ℕ) → is_word32 n ≡ true → n < 2 ^ 32
word32_lt n h = grind (arith, nat_tests)

lt_word32 : (n : ℕ) → n < 2 ^ 32 → is_word32 n ≡ true
lt_word32 n h = grind (arith, nat_tests)

-- the digits that a number is written in
pub word32_digits : (n : ℕ) → is_word32 n ≡ true → list_all is_hex_digit (word32 n) ≡ true
word32_digits n h = (and_parts _ (list_all is_hex_digit (word32 n)) (written_is_lower (to_be_bytes w32 n) (bytes_32 n (word32_lt n h)))).1

eight : (word : List ℕ) → length word ≡ 8 → list_all is_hex_digit word ≡ true → (length word == 8 && list_all is_hex_digit word) ≡ true
eight word l h = and_both (grind (arith, nat_tests)) h

-- a number that is written is read
pub word32_back : (n : ℕ) → is_word32 n ≡ true → word32_in (word32 n) ≡ Some n
word32_back n h =
    let small = word32_lt n h in
    let length_8 : length (word32 n) ≡ 8 = length-encode_with lower_digits (to_be_bytes w32 n) in
    let bytes : bytes_in (word32 n) ≡ to_be_bytes w32 n = ap decoded (written_decodes (to_be_bytes w32 n) (bytes_32 n small)) in
    if_some _ _ (eight (word32 n) length_8 (word32_digits n h))
    ∙ ap (λ bs. Some (from_be_bytes w32 bs)) bytes ∙ ap Some (from_be_bytes-to_be_bytes_4 n small)

lower : (word : List ℕ) → length word ≡ 8 → list_all is_hex_digit word ≡ true → is_lower_hex word ≡ true
lower word eight digits = and_both (grind (arith, nat_tests)) digits

-- a number that is read is written so
pub word32_is : (word : List ℕ) (n : ℕ) → word32_in word ≡ Some n → (word ≡ word32 n) × (is_word32 n ≡ true)
word32_is word n h =
    let read = some_if (length word == 8 && list_all is_hex_digit word) _ _ h in
    let parts = and_parts (length word == 8) (list_all is_hex_digit word) read.0 in
    let eight : length word ≡ 8 = eqb-true (length word) 8 parts.0 in
    let written = lower_is_written word (lower word eight parts.1) in
    let is : n ≡ from_be_bytes w32 written.0 = sym read.1 ∙ ap (λ r. from_be_bytes w32 (decoded r)) written.1 in
    let twice = length-encode_with lower_digits written.0 in
    let four : length written.0 ≡ 4 = omega (arith, ap length written.3) in
    let bytes : to_be_bytes w32 n ≡ written.0 = be_bytes_4 written.0 n four written.2 is in
    (sym (ap encode_lower bytes ∙ written.3), lt_word32 n (below_32 written.0 n written.2 is))
  where
    below_32 : (bytes : List ℕ) (n : ℕ) → IsBytes bytes → n ≡ from_be_bytes w32 bytes → n < 2 ^ 32
    below_32 bytes n small is = omega (arith, small 0, small 1, small 2, small 3)
