-- The text of a line reads back, and a line is the text of what is read.
use Rattle.std.proofs.Common.{◌≡◌, ℕ, ◌≤◌, Bool, true, false, ◌&&◌, nat_lt, nat_le, if◌then◌else◌, List, [], ◌∷◌, length, Option, Some, None, Result, Ok, Err, refl, sym, ap, subst, ◌∙◌, arith}
use Rattle.std.proofs.lemmas.Bool.{and_parts}
use Rattle.std.proofs.lemmas.Bool.Decides.{nat_tests}
use Rattle.std.specs.List.{list_all}
use Rattle.rams_model.specs.declared.LineFault.{LineFault}
use Rattle.rams_model.specs.Texts.{words_of, text_of, TraceLine, head_line, channel_line, live_line, feedback_line, tick_line, end_line, tune_line, give_line, mcast_line, ask_line, drop_line, line_in, line_of, line_at, ranged, line_words, line_text, line_has_form, line_in_range, is_spelled}
use Rattle.rams_model.specs.Texts.TraceLines.{Words}
use Rattle.trace_lines.specs.{is_end}
use Rattle.trace_text.proofs.AsRead.{line_is}
use Rattle.trace_lines.proofs.Joins.{has_no_space, words_of-text_of, text_of-words_of}
use Rattle.trace_text.proofs.ReadAgain.{line_back, no_spaces}
use Rattle.trace_lines.proofs.Spelled.{and_both}

-- a line has a word
some_word : (l : TraceLine) → is_end (line_words l) ≡ false
some_word (head_line version tick link) = refl
some_word (channel_line version c) = refl
some_word (live_line id hex) = refl
some_word (feedback_line id client hex) = refl
some_word tick_line = refl
some_word end_line = refl
some_word (tune_line id client ssrc) = refl
some_word (give_line number) = refl
some_word (mcast_line id client n) = refl
some_word (ask_line id client) = refl
some_word (drop_line id client) = refl

words_again : (ws : Words) → is_end ws ≡ false → list_all has_no_space ws ≡ true → words_of (text_of ws) ≡ ws
words_again [] some h = absurd cc
words_again (word ∷ words) some h = words_of-text_of word words h

-- a text of at most 4,096 bytes
few : {A : Type 0} (n : ℕ) (x : Option A) → n ≤ 4096 → (if nat_lt 4096 n then None else x) ≡ x
few n x h = grind (arith, nat_tests)

few_of : {A : Type 0} (n : ℕ) (x : Option A) (a : A) → (if nat_lt 4096 n then None else x) ≡ Some a → (n ≤ 4096) × (x ≡ Some a)
few_of {A} n x a h = by (nat_lt 4096 n) refl h
  where
    at_most : nat_lt 4096 n ≡ false → n ≤ 4096
    at_most e = grind (arith, nat_tests)

    by : (t : Bool) → nat_lt 4096 n ≡ t → (if t then None else x) ≡ Some a → (n ≤ 4096) × (x ≡ Some a)
    by true e h = absurd cc
    by false e h = (at_most e, h)

-- the text of a line of the form is that line
text_is_read : (l : TraceLine) → line_has_form l ≡ true → length (line_text l) ≤ 4096 → line_of (line_text l) ≡ Some l
unfolding line_text
text_is_read l form short =
    few (length (text_of (line_words l))) (line_in (words_of (text_of (line_words l)))) short
    ∙ ap line_in (words_again (line_words l) (some_word l) (no_spaces l form)) ∙ line_back l form

-- what bytes are a line, and which
pub record IsText (bytes : List ℕ) (l : TraceLine) : Type 0 where
  short : length bytes ≤ 4096
  pub words : words_of bytes ≡ line_words l
  pub has_form : line_has_form l ≡ true
  text : line_text l ≡ bytes

pub is_text : (bytes : List ℕ) (l : TraceLine) → line_of bytes ≡ Some l → IsText bytes l
unfolding line_text
is_text bytes l h =
    let in_few = few_of (length bytes) (line_in (words_of bytes)) l h in
    let is = line_is (words_of bytes) l in_few.1 in record {
      short = in_few.0;
      words = is.0;
      has_form = is.1;
      text = ap text_of (sym is.0) ∙ text_of-words_of bytes;
    }

-- what a line in range says
pub ranged_ok : (o : Option TraceLine) (l : TraceLine) → ranged o ≡ Ok l → (o ≡ Some l) × (line_in_range l ≡ true)
ranged_ok None l h = absurd cc
ranged_ok (Some line) l h = by (line_in_range line) refl h
  where
    by : (t : Bool) → line_in_range line ≡ t → (let r : Result TraceLine LineFault = if t then Ok line else Err LineFault.Range in r ≡ Ok l) → (Some line ≡ Some l) × (line_in_range l ≡ true)
    by true e h = let is : line ≡ l = cc in (ap Some is, subst (λ (x : TraceLine). line_in_range x ≡ true) is e)
    by false e h = absurd cc

ranged_in : (l : TraceLine) → line_in_range l ≡ true → ranged (Some l) ≡ Ok l
ranged_in l h = rw h refl

le_4096 : (n : ℕ) → nat_le n 4096 ≡ true → n ≤ 4096
le_4096 n h = grind (arith, nat_tests)

pub le_true : (n : ℕ) → n ≤ 4096 → nat_le n 4096 ≡ true
le_true n h = grind (arith, nat_tests)

-- a line that a trace may have is read from its text
pub spelled_is_read : (l : TraceLine) → is_spelled l ≡ true → line_at (line_text l) ≡ Ok l
unfolding is_spelled line_at
spelled_is_read l h =
    let outer = and_parts (line_has_form l && line_in_range l) (nat_le (length (line_text l)) 4096) h in
    let inner = and_parts (line_has_form l) (line_in_range l) outer.0 in
    ap ranged (text_is_read l inner.0 (le_4096 _ outer.1)) ∙ ranged_in l inner.1

pub text_reads : (bytes : List ℕ) (l : TraceLine) → bytes ≡ line_text l → is_spelled l ≡ true → line_at bytes ≡ Ok l
text_reads bytes l same h = ap line_at same ∙ spelled_is_read l h

-- what is read is a line that a trace may have, and its text is what it was read from
pub read_is_spelled : (bytes : List ℕ) (l : TraceLine) → line_at bytes ≡ Ok l → (is_spelled l ≡ true) × (line_text l ≡ bytes)
unfolding is_spelled line_at
read_is_spelled bytes l h =
    let ok = ranged_ok (line_of bytes) l h in
    let is = is_text bytes l ok.0 in
    let short : length (line_text l) ≤ 4096 = subst (λ (bs : List ℕ). length bs ≤ 4096) (sym is.text) is.short in
    (and_both (and_both is.has_form ok.1) (le_true _ short), is.text)
