-- A number that is the first word of a line's rest.
use Rattle.std.proofs.Common.{◌≡◌, ℕ, ◌+◌, ◌<◌, ◌≤◌, Bool, true, false, ◌&&◌, ◌||◌, ◌==◌, not, eqb, ltb, List, [], ◌∷◌, ◌++◌, Some, length, take, drop, get_or, refl, sym, ap, ◌∙◌, arith}
use Rattle.std.proofs.lemmas.Bool.Decides.{nat_tests}
use Rattle.std.proofs.lemmas.List.{take_all, take-append-drop, drop_more, length-take-le, get_or-take}
use Rattle.std.specs.Int.{is_in_range}
use Rattle.std.specs.List.{list_all}
use Rattle.std.specs.Str.Parse.{digits_value}
use Rattle.rams_model.specs.Texts.{is_digit, is_number, number_in, one, words_of}
use Rattle.trace_lines.proofs.Joins.{word_first, word_last}
use Rattle.trace_lines.proofs.Spaces.{digit_no_space}

are_number : (word : List ℕ) → 1 ≤ length word → length word ≤ 15 → list_all is_digit word ≡ true → (1 < length word → ¬ (get_or word 0 0 ≡ 48)) → is_number word ≡ true
are_number word some few digits lead = both _ _ (both _ _ (counted (length word) some few) digits) (led (length word) (get_or word 0 0) some lead)
  where
    both : (a b : Bool) → a ≡ true → b ≡ true → (a && b) ≡ true
    both a b x y = rw (x, y) refl

    counted : (n : ℕ) → 1 ≤ n → n ≤ 15 → is_in_range 1 15 n ≡ true
    counted n low high = grind (arith, nat_tests)

    led : (n c : ℕ) → 1 ≤ n → (1 < n → ¬ (c ≡ 48)) → (n == 1 || not (c == 48)) ≡ true
    led n c some lead = grind (arith, nat_tests)

read_as : (word : List ℕ) (value : ℕ) → is_number word ≡ true → value ≡ digits_value 10 word → number_in word ≡ Some value
read_as word value number is = rw (number, is) refl

-- what the test for a zero in front of others says
pub not_led : (n c : ℕ) → (ltb 1 n && eqb c 48) ≡ false → 1 < n → ¬ (c ≡ 48)
not_led n c h more e = absurd (grind (arith, nat_tests, h, more, e))

-- the digits are all the bytes
pub number_alone : (bytes : List ℕ) (count value : ℕ) → count ≡ length bytes → 1 ≤ count → count ≤ 15 → list_all is_digit (take count bytes) ≡ true → value ≡ digits_value 10 (take count bytes)
    → (1 < count → ¬ (get_or bytes 0 0 ≡ 48)) → one number_in (words_of bytes) ≡ Some (value, [])
number_alone bytes count value all some few digits is lead =
    let whole = take_all count bytes (omega arith) in
    let digits_all : list_all is_digit bytes ≡ true = sym (ap (list_all is_digit) whole) ∙ digits in
    let number = are_number bytes (omega arith) (omega arith) digits_all (λ more. lead (omega arith)) in
    rw (word_last bytes (digit_no_space bytes digits_all), read_as bytes value number (is ∙ ap (digits_value 10) whole)) refl

-- a space stands behind them
pub number_first : (bytes : List ℕ) (count value : ℕ) → count < length bytes → get_or bytes count 0 ≡ 32 → 1 ≤ count → count ≤ 15 → list_all is_digit (take count bytes) ≡ true
    → value ≡ digits_value 10 (take count bytes) → (1 < count → ¬ (get_or bytes 0 0 ≡ 48)) → one number_in (words_of bytes) ≡ Some (value, words_of (drop (count + 1) bytes))
number_first bytes count value within space some few digits is lead =
    let word = take count bytes in
    let long = length-take-le count bytes (omega arith) in
    let first : get_or word 0 0 ≡ get_or bytes 0 0 = get_or-take count bytes 0 0 (omega arith) in
    let number = are_number word (omega arith) (omega arith) digits (λ more e. lead (omega arith) (sym first ∙ e)) in
    let split : bytes ≡ word ++ 32 ∷ drop (count + 1) bytes = sym (take-append-drop count bytes) ∙ ap (λ (l : List ℕ). word ++ l) (drop_more bytes count 0 within ∙ ap (λ b. b ∷ drop (count + 1) bytes) space) in
    let words = ap words_of split ∙ word_first word (drop (count + 1) bytes) (digit_no_space word digits) in
    rw (words, read_as word value number is) refl
