-- The digits of a word of bytes are those of its bytes.
use Rattle.std.proofs.Common.{◌≡◌, ℕ, ◌%◌, Bool, true, false, ◌&&◌, ◌||◌, ◌==◌, List, [], ◌∷◌, length, codes, bytes_eq, refl, sym, ap, subst, ◌∙◌, ltb}
use Rattle.std.specs.List.{list_all}
use Rattle.hex.specs.Hex.{encode_lower, encode_with}
use Rattle.hex_text.proofs.Written.{lower_is_written}
use Rattle.rams_model.specs.Texts.{bytes_in, decoded, hex_word, is_hex, is_hex_digit}
use Rattle.trace_lines.proofs.Spelled.{is_word}

-- the parts of a word of digits
some_digits : (long even digits : Bool) → (false || ((long && even) && digits)) ≡ true → (long ≡ true) × ((even && digits) ≡ true)
some_digits true even digits h = (refl, h)
some_digits false even digits h = absurd cc

-- bytes of a word that has digits are written as those
written_back : (word bytes : List ℕ) → ltb 0 (length word) ≡ true → encode_lower bytes ≡ word → hex_word bytes ≡ word
unfolding encode_with
written_back word [] long is = let none : ltb 0 (length word) ≡ false = ap (λ (w : List ℕ). ltb 0 (length w)) (sym is) in absurd cc
written_back word (b ∷ bytes) long is = is

digits_back : (word : List ℕ) → ltb 0 (length word) ≡ true → (length word % 2 == 0 && list_all is_hex_digit word) ≡ true → hex_word (bytes_in word) ≡ word
digits_back word long lower =
    let w = lower_is_written word lower in
    let bytes_are : bytes_in word ≡ w.0 = ap decoded w.1 in
    ap hex_word bytes_are ∙ written_back word w.0 long w.3

-- the bytes of a word are written as it
pub word_back : (word : List ℕ) → is_hex word ≡ true → hex_word (bytes_in word) ≡ word
word_back word h = by (bytes_eq word (codes "-")) refl
  where
    by : (t : Bool) → bytes_eq word (codes "-") ≡ t → hex_word (bytes_in word) ≡ word
    by true dash = subst (λ (w : List ℕ). hex_word (bytes_in w) ≡ w) (sym (is_word word (codes "-") dash)) refl
    by false other =
        let parts = some_digits (ltb 0 (length word)) (length word % 2 == 0) (list_all is_hex_digit word) (subst (λ (b : Bool). (b || ((ltb 0 (length word) && length word % 2 == 0) && list_all is_hex_digit word)) ≡ true) other h) in
        digits_back word parts.0 parts.1
