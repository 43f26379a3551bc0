-- The word of bytes has two digits for each.
use Rattle.std.proofs.Common.{◌≡◌, ℕ, ◌*◌, ◌≤◌, List, [], ◌∷◌, length, arith}
use Rattle.hex.specs.Hex.{encode_lower, lower_digits}
use Rattle.hex.proofs.HexLemmas.{length-encode_with}
use Rattle.rams_model.specs.Texts.{hex_word}

pub digits_fit : (bytes : List ℕ) → 2 * length bytes ≤ length (hex_word bytes)
digits_fit [] = omega arith
digits_fit (b ∷ bytes) = let long = length-encode_with lower_digits (b ∷ bytes) in omega (arith, long)

pub two_digits : (bytes : List ℕ) → length (encode_lower bytes) ≡ 2 * length bytes
two_digits bytes = length-encode_with lower_digits bytes
