-- What bytes are written as reads back, and a text of lower-case digits is what its bytes are written as.
use Rattle.std.proofs.Common.{◌≡◌, ℕ, ◌/◌, ◌%◌, ◌<◌, true, ◌==◌, List, [], ◌∷◌, length, refl, arith, suc}
use Rattle.std.proofs.lemmas.Bool.{and_from, and_parts, eqb-true}
use Rattle.std.specs.List.{list_all}
use Rattle.hex.specs.Hex.{encode_lower, encode_with, lower_digits, IsBytes}
use Rattle.hex.proofs.HexLemmas.{decode_of-encode_lower, decode_of-ok, length-encode_with}
use Rattle.hex_text.specs.{is_lower_digit, WrittenDecodes, WrittenIsLower, LowerIsWritten, value_of, pair_byte, pair_bytes}
use Rattle.hex_text.proofs.Digits.{lower_digits-value_of, is_lower-lower_digits}
use Rattle.hex_text.proofs.Reading.{decode_of-lower}

digits_lower : (bytes : List ℕ) → IsBytes bytes → list_all is_lower_digit (encode_lower bytes) ≡ true
unfolding encode_with
digits_lower [] h = refl
digits_lower (b ∷ bytes) h =
    let byte : b < 256 = h 0 in
    and_from _ _ (is_lower-lower_digits (b / 16) (omega arith)) (and_from _ _ (is_lower-lower_digits (b % 16) (omega arith)) (digits_lower bytes (λ i. h (suc i))))

pub written_decodes : WrittenDecodes
written_decodes = decode_of-encode_lower

pub written_is_lower : WrittenIsLower
written_is_lower bytes h =
    let long = length-encode_with lower_digits bytes in
    let even : length (encode_lower bytes) % 2 ≡ 0 = omega arith in
    and_from _ _ (rw even refl) (digits_lower bytes h)

encode_lower-pair_bytes : (text : List ℕ) → length text % 2 ≡ 0 → list_all is_lower_digit text ≡ true → encode_lower (pair_bytes text) ≡ text
unfolding encode_with pair_bytes
encode_lower-pair_bytes [] even lower = refl
encode_lower-pair_bytes (digit ∷ []) even lower = absurd (omega arith)
encode_lower-pair_bytes (high ∷ low ∷ rest) even lower =
    let first = and_parts (is_lower_digit high) (list_all is_lower_digit (low ∷ rest)) lower in
    let second = and_parts (is_lower_digit low) (list_all is_lower_digit rest) first.1 in
    let h : pair_byte high low / 16 ≡ value_of high % 16 = omega arith in
    let l : pair_byte high low % 16 ≡ value_of low % 16 = omega arith in
    rw (h, l, lower_digits-value_of high first.0, lower_digits-value_of low second.0, encode_lower-pair_bytes rest (omega arith) second.1) refl

pub lower_is_written : LowerIsWritten
lower_is_written text h =
    let parts = and_parts (length text % 2 == 0) (list_all is_lower_digit text) h in
    let even = eqb-true (length text % 2) 0 parts.0 in
    let decodes = decode_of-lower text even parts.1 in
    (pair_bytes text, decodes, (decode_of-ok text (pair_bytes text) decodes).3, encode_lower-pair_bytes text even parts.1)
