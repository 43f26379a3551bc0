-- Words of hexadecimal digits.
use Rattle.std.proofs.Common.{◌≡◌, ℕ, true, false, List, codes, bytes_eq, arith}
use Rattle.std.proofs.lemmas.Bool.Decides.{nat_tests}
use Rattle.std.specs.List.{list_all}
use Rattle.rams_model.specs.Texts.{is_hex_digit, is_hex}

-- a word of bytes that isn't `-` has digits
pub word_digits : (word : List ℕ) → is_hex word ≡ true → bytes_eq word (codes "-") ≡ false → list_all is_hex_digit word ≡ true
word_digits word hex other = grind (arith, nat_tests)
