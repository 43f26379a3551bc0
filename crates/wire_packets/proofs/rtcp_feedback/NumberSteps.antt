-- The numbers of a NACK, one after another.
use Rattle.std.proofs.Common.{◌≡◌, ℕ, suc, ◌+◌, ◌-◌, ◌%◌, ◌≤◌, ◌<◌, true, false, List, [], ◌∷◌, ◌++◌, length, drop, refl, sym, ◌∙◌, ap, arith, eq-eqb, Ok}
use Rattle.std.specs.Prelude.{◌==◌, if◌then◌else◌, filter}
use Rattle.std.specs.Int.{w16, from_be_bytes, bit_at}
use Rattle.std.proofs.lemmas.Bool.{ne_eqb}
use Rattle.rams_model.specs.Formats.{counted_from, numbers_of, word_numbers, nack_numbers}
use Rattle.rams_model.proofs.ListFacts.{map_cond}
use Rattle.wire_packets.specs.rtcp_feedback.{marked_from, numbers_from}

marked_step : (pid blp i n : ℕ) → marked_from pid blp i (suc n) ≡ (if bit_at blp (i - 1) == 1 then (pid + i) % 65536 ∷ marked_from pid blp (i + 1) n else marked_from pid blp (i + 1) n)
unfolding marked_from
marked_step pid blp i n = map_cond (λ i. (pid + i) % 65536) (bit_at blp (i - 1) == 1) i (filter (λ i. bit_at blp (i - 1) == 1) (counted_from (i + 1) n))

-- a bit that is set names its number
pub bit_set : (pid blp i : ℕ) (words : List ℕ) → i ≤ 16 → bit_at blp (i - 1) ≡ 1 → numbers_from pid blp i words ≡ (pid + i) % 65536 ∷ numbers_from pid blp (i + 1) words
unfolding numbers_from
bit_set pid blp i words h e =
    let left : 17 - i ≡ suc (17 - (i + 1)) = omega arith in
    let is : (bit_at blp (i - 1) == 1) ≡ true = eq-eqb (bit_at blp (i - 1)) 1 e in
    ap (λ (ns : List ℕ). ns ++ numbers_of words) (ap (marked_from pid blp i) left ∙ marked_step pid blp i (17 - (i + 1))
    ∙ ap (λ b. if b then (pid + i) % 65536 ∷ marked_from pid blp (i + 1) (17 - (i + 1)) else marked_from pid blp (i + 1) (17 - (i + 1))) is)

-- one that isn't names none
pub bit_clear : (pid blp i : ℕ) (words : List ℕ) → i ≤ 16 → (bit_at blp (i - 1) ≡ 1 → ⊥) → numbers_from pid blp i words ≡ numbers_from pid blp (i + 1) words
unfolding numbers_from
bit_clear pid blp i words h e =
    let left : 17 - i ≡ suc (17 - (i + 1)) = omega arith in
    let is : (bit_at blp (i - 1) == 1) ≡ false = ne_eqb (bit_at blp (i - 1)) 1 e in
    ap (λ (ns : List ℕ). ns ++ numbers_of words) (ap (marked_from pid blp i) left ∙ marked_step pid blp i (17 - (i + 1))
    ∙ ap (λ b. if b then (pid + i) % 65536 ∷ marked_from pid blp (i + 1) (17 - (i + 1)) else marked_from pid blp (i + 1) (17 - (i + 1))) is)

-- behind the last bit stand the words that are left
pub word_ends : (pid blp : ℕ) (words : List ℕ) → numbers_from pid blp 17 words ≡ numbers_of words
unfolding numbers_from marked_from
word_ends pid blp words = refl

pub words_end : (words : List ℕ) → length words < 4 → numbers_of words ≡ []
unfolding numbers_of
words_end [] h = refl
words_end (a ∷ []) h = refl
words_end (a ∷ b ∷ []) h = refl
words_end (a ∷ b ∷ c ∷ []) h = refl
words_end (a ∷ b ∷ c ∷ d ∷ rest) h = absurd (omega arith)

-- a word names its own number, and those of its bits
pub word_begins : (words : List ℕ) → 4 ≤ length words → numbers_of words ≡ from_be_bytes w16 words ∷ numbers_from (from_be_bytes w16 words) (from_be_bytes w16 (drop 2 words)) 1 (drop 4 words)
unfolding numbers_of word_numbers numbers_from marked_from
word_begins (a ∷ b ∷ c ∷ d ∷ rest) h = refl
word_begins [] h = absurd (omega arith)
word_begins (a ∷ []) h = absurd (omega arith)
word_begins (a ∷ b ∷ []) h = absurd (omega arith)
word_begins (a ∷ b ∷ c ∷ []) h = absurd (omega arith)

-- all numbers of words, whole ones
pub all_numbers : (words : List ℕ) → 0 < length words → length words % 4 ≡ 0 → nack_numbers words ≡ Ok (numbers_from 0 0 17 words)
all_numbers words h whole =
    let some : (length words == 0) ≡ false = ne_eqb (length words) 0 (λ e. omega arith) in
    let is : (length words % 4 == 0) ≡ true = eq-eqb (length words % 4) 0 whole in
    rw (some, is) (ap Ok (sym (word_ends 0 0 words)))

-- at the end of a word: the next one
pub next_word : (pid blp bit p b : ℕ) (words rest : List ℕ) → bit ≡ 17 → 4 ≤ length words → p ≡ from_be_bytes w16 words → b ≡ from_be_bytes w16 (drop 2 words) → rest ≡ drop 4 words
    → numbers_from pid blp bit words ≡ p ∷ numbers_from p b 1 rest
next_word pid blp bit p b words rest end long first bits behind =
    rw (end, first, bits, behind) (word_ends pid blp words ∙ word_begins words long)

-- or none
pub no_word : (pid blp bit : ℕ) (words : List ℕ) → bit ≡ 17 → length words < 4 → numbers_from pid blp bit words ≡ []
no_word pid blp bit words end short = rw end (word_ends pid blp words ∙ words_end words short)
