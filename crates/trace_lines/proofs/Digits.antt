-- Decimal digits one by one.
use Rattle.std.proofs.Common.{◌≡◌, ℕ, ◌+◌, ◌-◌, ◌*◌, ◌^◌, ◌<◌, ◌≤◌, true, List, length, take, get_or, refl, sym, ap, ◌∙◌, arith, add-one}
use Rattle.std.proofs.lemmas.Bool.Decides.{nat_tests}
use Rattle.std.proofs.Math.Nat.{pow-suc, pow-le-pow_right}
use Rattle.std.proofs.lemmas.List.Elements.{All-get_or}
use Rattle.std.proofs.lemmas.List.Folds.{list_all_more}
use Rattle.std.proofs.lemmas.List.Sums.{AllPass-from_list_all}
use Rattle.std.proofs.lemmas.Int.Digits.{digits_value_more}
use Rattle.std.specs.List.{list_all}
use Rattle.std.specs.Char.{digit_value}
use Rattle.std.specs.Str.Parse.{digits_value}
use Rattle.rams_model.specs.Texts.{is_digit}

-- each of these digits is one
pub digit_at : (word : List ℕ) (i : ℕ) → list_all is_digit word ≡ true → i < length word → (48 ≤ get_or word i 0) × (get_or word i 0 ≤ 57)
digit_at word i all within =
    let passes : is_digit (get_or word i 0) ≡ true = All-get_or (λ c. is_digit c ≡ true) word i 0 within (AllPass-from_list_all is_digit word all) in
    grind (arith, nat_tests)

-- what a decimal digit stands for
digit_value-decimal : (c : ℕ) → 48 ≤ c → c ≤ 57 → digit_value c ≡ c - 48
digit_value-decimal c low high = grind (arith, nat_tests)

-- a digit behind others
pub one_more : (word : List ℕ) (i : ℕ) → list_all is_digit word ≡ true → i < length word → digits_value 10 (take (i + 1) word) ≡ digits_value 10 (take i word) * 10 + (get_or word i 0 - 48)
one_more word i all within =
    let digit = digit_at word i all within in
    digits_value_more 10 word i within ∙ ap (λ d. digits_value 10 (take i word) * 10 + d) (digit_value-decimal _ digit.0 digit.1)

pub one_digit : (c : ℕ) → is_digit c ≡ true → (48 ≤ c) × (c ≤ 57)
one_digit c h = grind (arith, nat_tests)

-- a digit behind digits alone
pub another : (word : List ℕ) (i value : ℕ) → i < length word → is_digit (get_or word i 0) ≡ true → list_all is_digit (take i word) ≡ true → value ≡ digits_value 10 (take i word)
    → (list_all is_digit (take (i + 1) word) ≡ true) × (value * 10 + (get_or word i 0 - 48) ≡ digits_value 10 (take (i + 1) word))
another word i value within digit all is =
    let range = one_digit (get_or word i 0) digit in (
      rw (list_all_more is_digit word i 0 within, all, digit) refl,
      rw is (sym (digits_value_more 10 word i within ∙ ap (λ d. digits_value 10 (take i word) * 10 + d) (digit_value-decimal _ range.0 range.1))),
    )

-- a number below a power of ten, with one more digit
pub below_more : (i value digit : ℕ) → value < 10 ^ i → digit < 10 → value * 10 + digit < 10 ^ (i + 1)
below_more i value digit small one = rw add-one (omega (arith, pow-suc 10 i))

-- and how large it can be after 14 digits
pub below_15 : (i value : ℕ) → value < 10 ^ i → i < 15 → value * 10 + 9 < 10 ^ 15
below_15 i value small short =
    let at_most : 10 ^ i ≤ 10 ^ 14 = pow-le-pow_right (omega arith) {j = 14} (omega arith) in
    omega arith
