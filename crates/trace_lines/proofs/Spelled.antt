-- Words, and the values that they are read as: each way.
use Rattle.std.proofs.Common.{◌≡◌, ℕ, ◌^◌, ◌<◌, ◌≤◌, Bool, true, false, ◌&&◌, ◌||◌, ◌==◌, not, if◌then◌else◌, List, length, get_or, bytes_eq, Some, None, refl, sym, ap, subst, ◌∙◌, arith, decimal, suc, zero, rules, inl, inr}
use Rattle.std.proofs.lemmas.Bool.Decides.{nat_tests}
use Rattle.std.proofs.lemmas.Bool.{and_parts, lt-ltb, cases_eq}
use Rattle.std.proofs.lemmas.Fmt.{decimal-digits_value, digits_value-decimal, digits_decimal, length-decimal-le, decimal_nonempty, decimal_digit, first_decimal}
use Rattle.std.proofs.lemmas.Slice.Eq.{bytes_eq-Decides}
use Rattle.std.proofs.lemmas.Str.Parse.{IsNumeralModel, numerals_by_value, digits_value_short}
use Rattle.std.specs.Int.{is_in_range}
use Rattle.std.specs.List.{list_all}
use Rattle.std.specs.Str.Parse.{digits_value}
use Rattle.rams_model.specs.Texts.{is_digit, is_number, number_in, is_short}

-- a word that passes the comparison with a name is the name
pub is_word : (word name : List ℕ) → bytes_eq word name ≡ true → word ≡ name
is_word word name h = (bytes_eq-Decides word name).0 h

pub same_word : (word : List ℕ) → bytes_eq word word ≡ true
same_word word = (bytes_eq-Decides word word).1 refl

-- what a value under a test says
pub some_if : {A : Type 0} (b : Bool) (x y : A) → (if b then Some x else None) ≡ Some y → (b ≡ true) × (x ≡ y)
some_if true x y h = (refl, cc)
some_if false x y h = absurd cc

pub if_some : {A : Type 0} (b : Bool) (x : A) → b ≡ true → (if b then Some x else None) ≡ Some x
if_some true x h = refl
if_some false x h = absurd cc

own : IsNumeralModel (λ ds. list_all is_digit ds ≡ true) (digits_value 10)
own = numerals_by_value _ (search rules)

pub short_true : (n : ℕ) → n < 10 ^ 15 → is_short n ≡ true
short_true n h = lt-ltb n (10 ^ 15) h

short_lt : (n : ℕ) → is_short n ≡ true → n < 10 ^ 15
short_lt n h = grind (arith, nat_tests)

-- what the test of a number says
pub record Numeral (word : List ℕ) : Type 0 where
  some : 1 ≤ length word
  few : length word ≤ 15
  digits : list_all is_digit word ≡ true
  lead : get_or word 0 0 ≡ 48 → length word ≡ 1

at_least : (n : ℕ) → is_in_range 1 15 n ≡ true → 1 ≤ n
at_least n h = grind (arith, nat_tests)

at_most : (n : ℕ) → is_in_range 1 15 n ≡ true → n ≤ 15
at_most n h = grind (arith, nat_tests)

leads : (n c : ℕ) → (n == 1 || not (c == 48)) ≡ true → c ≡ 48 → n ≡ 1
leads n c h e = grind (arith, nat_tests)

numeral : (word : List ℕ) → is_number word ≡ true → Numeral word
numeral word h =
    let outer = and_parts (is_in_range 1 15 (length word) && list_all is_digit word) (length word == 1 || not (get_or word 0 0 == 48)) h in
    let inner = and_parts (is_in_range 1 15 (length word)) (list_all is_digit word) outer.0 in record {
      some = at_least (length word) inner.0;
      few = at_most (length word) inner.0;
      digits = inner.1;
      lead = leads (length word) (get_or word 0 0) outer.1;
    }

-- a number that is read is written so
pub number_is : (word : List ℕ) (n : ℕ) → number_in word ≡ Some n → (word ≡ decimal n) × (is_short n ≡ true)
number_is word n h =
    let read = some_if (is_number word) _ _ h in
    let is = numeral word read.0 in
    let bound : digits_value 10 word < 10 ^ 15 = digits_value_short own word 15 is.digits is.few in
    let same : decimal (digits_value 10 word) ≡ word = decimal-digits_value own word is.digits is.some is.lead (omega arith) in
    (sym same ∙ ap decimal read.1, subst (λ (k : ℕ). is_short k ≡ true) read.1 (short_true _ bound))

lead_of : (n : ℕ) → n < 2 ^ 64 → get_or (decimal n) 0 0 ≡ 48 → length (decimal n) ≡ 1
lead_of zero h zeros = ap length (decimal_digit 0 (omega arith))
lead_of (suc n) h zeros = let above = first_decimal (suc n) (omega arith) h in absurd (omega arith)

pub digits_of : (n : ℕ) → is_short n ≡ true → list_all is_digit (decimal n) ≡ true
digits_of n h = digits_decimal own n (let small = short_lt n h in omega arith)

within : (n : ℕ) → 1 ≤ n → n ≤ 15 → is_in_range 1 15 n ≡ true
within n low high = grind (arith, nat_tests)

unled : (n c : ℕ) → (c ≡ 48 → n ≡ 1) → (n == 1 || not (c == 48)) ≡ true
unled n c lead = elim (cases_eq c 48) [ inl e ↦ grind (arith, nat_tests, lead e) | inr ne ↦ grind (arith, nat_tests) ]

pub and_both : {a b : Bool} → a ≡ true → b ≡ true → (a && b) ≡ true
and_both {a} {b} h k = rw (h, k) refl

number_test : (word : List ℕ) → Numeral word → is_number word ≡ true
number_test word is =
    and_both (and_both (within (length word) is.some is.few) is.digits) (unled (length word) (get_or word 0 0) is.lead)

-- a number that is written is read
pub number_back : (n : ℕ) → is_short n ≡ true → number_in (decimal n) ≡ Some n
number_back n h =
    let small = short_lt n h in
    let is : Numeral (decimal n) = record {
      some = decimal_nonempty n (omega arith);
      few = length-decimal-le 15 n (omega arith) small (omega arith);
      digits = digits_of n h;
      lead = lead_of n (omega arith);
    } in
    if_some _ _ (number_test _ is) ∙ ap Some (digits_value-decimal own n (omega arith))
