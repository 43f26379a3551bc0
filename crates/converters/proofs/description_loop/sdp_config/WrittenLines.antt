-- The lines of a text that is made of lines, and that nothing is wrong with those that are written.
use Rattle.std.proofs.Common.{◌≡◌, ℕ, ◌+◌, ◌^◌, ◌<◌, ◌≤◌, Bool, true, false, ◌&&◌, ◌==◌, not, eqb, nat_lt, List, [], ◌∷◌, ◌++◌, length, None, decimal, refl, ap, ◌∙◌, arith, le-leb, eq-eqb, length-append}
use Rattle.std.proofs.lemmas.Bool.{and_parts, lt-ltb}
use Rattle.std.proofs.lemmas.Bool.Decides.{nat_tests}
use Rattle.std.proofs.lemmas.Fmt.{length-decimal-le}
use Rattle.std.proofs.lemmas.List.Folds.{list_all-append}
use Rattle.std.proofs.lemmas.List.Splits.{slice_split-cons_yes, slice_split-cons_no}
use Rattle.std.specs.Int.{is_in_range}
use Rattle.std.specs.List.{list_all, onto_first}
use Rattle.rams_model.specs.Texts.{is_digit, is_short}
use Rattle.trace_lines.proofs.Spelled.{digits_of, and_both}
use Rattle.converters.specs.description_loop.sdp_config.{lines_in, is_line, pieces_of, joined_lines, first_fault}
use Rattle.converters.proofs.description_loop.sdp_config.Cuts.{lines-feed, lines-return, lines-other, lines-none}
use Rattle.trace_loop.proofs.journal_book.EventLines.{all_weaker}

-- no byte of a line's end stands in these
abbrev pub is_inner : ℕ → Bool
is_inner b = not (b == 10) && not (b == 13)

abbrev pub is_clean : List ℕ → Bool
is_clean line = list_all is_inner line

no_feed : (b : ℕ) → is_inner b ≡ true → eqb b 10 ≡ false
no_feed b h = grind (arith, nat_tests)

no_return : (b : ℕ) → is_inner b ≡ true → eqb b 13 ≡ false
no_return b h = grind (arith, nat_tests)

-- a line in front of its end
line_first : (line rest : List ℕ) → is_clean line ≡ true → lines_in (line ++ (13 ∷ 10 ∷ rest)) ≡ line ∷ lines_in rest
line_first [] rest h = lines-return 13 (10 ∷ rest) refl refl ∙ lines-feed 10 rest refl
line_first (b ∷ line) rest h =
    let parts = and_parts (is_inner b) (is_clean line) h in
    lines-other b (line ++ (13 ∷ 10 ∷ rest)) (no_feed b parts.0) (rw (no_return b parts.0) refl)
    ∙ ap (onto_first b) (line_first line rest parts.1)

-- the lines of a text that is made of them
pub lines_joined : (ls : List (List ℕ)) → list_all is_clean ls ≡ true → lines_in (joined_lines ls) ≡ ls
lines_joined [] h = lines-none
lines_joined (line ∷ ls) h =
    let parts = and_parts (is_clean line) (list_all is_clean ls) h in
    line_first line (joined_lines ls) parts.0 ∙ ap (λ (all : List (List ℕ)). line ∷ all) (lines_joined ls parts.1)

-- a text that may stand in a line, and its most bytes
pub record IsPlain (most : ℕ) (text : List ℕ) : Type 0 where
  pub clean : is_clean text ≡ true
  pub short : length text ≤ most

pub plain_both : (m n : ℕ) (a b : List ℕ) → IsPlain m a → IsPlain n b → IsPlain (m + n) (a ++ b)
plain_both m n a b p q = record {
  clean = list_all-append is_inner a b ∙ and_both p.clean q.clean;
  short = let e = length-append a b in let h = p.short in let k = q.short in omega arith;
}

digit_inner : (c : ℕ) → is_digit c ≡ true → is_inner c ≡ true
digit_inner c h = grind (arith, nat_tests)

pub short_of : (n : ℕ) → n < 2 ^ 32 → is_short n ≡ true
short_of n h = lt-ltb n (10 ^ 15) (omega arith)

pub plain_number : (n : ℕ) → n < 2 ^ 32 → IsPlain 15 (decimal n)
plain_number n h = record {
  clean = all_weaker is_digit is_inner digit_inner (decimal n) (digits_of n (short_of n h));
  short = length-decimal-le 15 n (omega arith) (omega arith) (omega arith);
}

-- a line of a letter, `=` and a plain text
pub line_is : (letter : ℕ) (value : List ℕ) → is_in_range 97 122 letter ≡ true → IsPlain 4096 (letter ∷ 61 ∷ value) → is_line (letter ∷ 61 ∷ value) ≡ true
line_is letter value h plain = rw (h, le-leb (length (letter ∷ 61 ∷ value)) 4096 plain.short) refl

-- nothing is wrong with lines behind the first
pub no_fault : (number : ℕ) (ls : List (List ℕ)) → 1 < number → number + length ls ≤ 1001 → list_all is_line ls ≡ true → first_fault number ls ≡ None
no_fault number [] low high h = refl
no_fault number (line ∷ ls) low high h =
    let parts = and_parts (is_line line) (list_all is_line ls) h in
    rw (below number high, parts.0, other number low) (no_fault (number + 1) ls (omega arith) (omega arith) parts.1)
  where
    below : (n : ℕ) → n + length (line ∷ ls) ≤ 1001 → nat_lt 1000 n ≡ false
    below n h = grind (arith, nat_tests)

    other : (n : ℕ) → 1 < n → (n == 1) ≡ false
    other n h = grind (arith, nat_tests)

-- no byte of the word is the mark
abbrev pub has_no : ℕ → List ℕ → Bool
has_no mark word = list_all (λ b. not (b == mark)) word

space_apart : (c : ℕ) → is_digit c ≡ true → not (c == 32) ≡ true
space_apart c h = grind (arith, nat_tests)

semicolon_apart : (c : ℕ) → is_digit c ≡ true → not (c == 59) ≡ true
semicolon_apart c h = grind (arith, nat_tests)

pub no_space : (n : ℕ) → n < 2 ^ 32 → has_no 32 (decimal n) ≡ true
no_space n h = all_weaker is_digit (λ b. not (b == 32)) space_apart (decimal n) (digits_of n (short_of n h))

pub no_semicolon : (n : ℕ) → n < 2 ^ 32 → has_no 59 (decimal n) ≡ true
no_semicolon n h = all_weaker is_digit (λ b. not (b == 59)) semicolon_apart (decimal n) (digits_of n (short_of n h))

other : (mark b : ℕ) → not (b == mark) ≡ true → eqb b mark ≡ false
other mark b h = grind (arith, nat_tests)

-- a piece in front of a mark
pub piece_first : (mark : ℕ) (word rest : List ℕ) → has_no mark word ≡ true → pieces_of mark (word ++ mark ∷ rest) ≡ word ∷ pieces_of mark rest
piece_first mark [] rest h = slice_split-cons_yes (λ c. eqb c mark) mark rest (eq-eqb mark mark refl)
piece_first mark (b ∷ word) rest h =
    let parts = and_parts (not (b == mark)) (has_no mark word) h in
    slice_split-cons_no (λ c. eqb c mark) b (word ++ mark ∷ rest) (other mark b parts.0) ∙ ap (onto_first b) (piece_first mark word rest parts.1)

-- a piece alone
pub piece_last : (mark : ℕ) (word : List ℕ) → has_no mark word ≡ true → pieces_of mark word ≡ word ∷ []
piece_last mark [] h = refl
piece_last mark (b ∷ word) h =
    let parts = and_parts (not (b == mark)) (has_no mark word) h in
    slice_split-cons_no (λ c. eqb c mark) b word (other mark b parts.0) ∙ ap (onto_first b) (piece_last mark word parts.1)
