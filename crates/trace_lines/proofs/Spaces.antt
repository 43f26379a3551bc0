-- No word of a line has a space.
use Rattle.std.proofs.Common.{◌≡◌, ℕ, Bool, true, false, ◌==◌, not, arith, List, [], ◌∷◌, codes, bytes_eq, decimal, refl, sym, subst, inl, inr}
use Rattle.std.proofs.lemmas.Bool.{and_parts}
use Rattle.std.proofs.lemmas.Bool.Decides.{nat_tests}
use Rattle.std.specs.List.{list_all}
use Rattle.rams_model.specs.declared.{Access.Access, Access.TheVariants.Marker, Access.TheVariants.Ts}
use Rattle.rams_model.specs.Texts.{is_digit, is_hex_digit, is_hex, word32, access_word, is_short, is_word32, is_version}
use Rattle.trace_lines.proofs.Hexes.{word_digits}
use Rattle.trace_lines.proofs.Joins.{has_no_space}
use Rattle.trace_lines.proofs.Spelled.{digits_of, and_both, is_word}
use Rattle.trace_lines.proofs.Steps.{two_versions}
use Rattle.trace_lines.proofs.Word32.{word32_digits}

pub digit_no_space : (word : List ℕ) → list_all is_digit word ≡ true → has_no_space word ≡ true
digit_no_space [] h = refl
digit_no_space (c ∷ word) h =
    let parts = and_parts (is_digit c) (list_all is_digit word) h in
    and_both (one_digit c parts.0) (digit_no_space word parts.1)
  where
    one_digit : (c : ℕ) → is_digit c ≡ true → not (c == 32) ≡ true
    one_digit c h = grind (arith, nat_tests)

hex_no_space : (word : List ℕ) → list_all is_hex_digit word ≡ true → has_no_space word ≡ true
hex_no_space [] h = refl
hex_no_space (c ∷ word) h =
    let parts = and_parts (is_hex_digit c) (list_all is_hex_digit word) h in
    and_both (one_digit c parts.0) (hex_no_space word parts.1)
  where
    one_digit : (c : ℕ) → is_hex_digit c ≡ true → not (c == 32) ≡ true
    one_digit c h = grind (arith, nat_tests)

pub in_decimal : (n : ℕ) → is_short n ≡ true → has_no_space (decimal n) ≡ true
in_decimal n h = digit_no_space (decimal n) (digits_of n h)

pub in_version : (v : ℕ) → is_version v ≡ true → has_no_space (decimal v) ≡ true
in_version v h = in_decimal v (elim (two_versions v h) [ inl e ↦ rw e refl | inr e ↦ rw e refl ])

pub in_word32 : (n : ℕ) → is_word32 n ≡ true → has_no_space (word32 n) ≡ true
in_word32 n h = hex_no_space (word32 n) (word32_digits n h)

pub in_access : (a : Access) → has_no_space (access_word a) ≡ true
in_access Marker = refl
in_access Ts = refl

pub in_hex : (h : List ℕ) → is_hex h ≡ true → has_no_space h ≡ true
in_hex h e = by (bytes_eq h (codes "-")) refl
  where
    by : (t : Bool) → bytes_eq h (codes "-") ≡ t → has_no_space h ≡ true
    by true dash = subst (λ (w : List ℕ). has_no_space w ≡ true) (sym (is_word h (codes "-") dash)) refl
    by false other = hex_no_space h (word_digits h e other)
