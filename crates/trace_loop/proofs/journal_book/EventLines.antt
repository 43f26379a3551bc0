-- The line of an event: it has no line feed, is read as itself, and brings the event.
use Rattle.std.proofs.Common.{◌≡◌, ℕ, ◌/◌, ◌%◌, ◌<◌, ◌≤◌, Bool, true, false, not, ◌&&◌, ◌==◌, List, [], ◌∷◌, ◌++◌, length, get_or, ltb, ltb-true, ltb-false, Option, Some, None, Result, Ok, Err, codes, bytes_eq, decimal, zero, suc, refl, sym, ap, subst, ◌∙◌, arith, append_assoc}
use Rattle.std.specs.List.{list_all}
use Rattle.std.proofs.lemmas.Bool.{and_parts, cond_both, not-true}
use Rattle.std.proofs.lemmas.Bool.Decides.{nat_tests}
use Rattle.std.proofs.lemmas.List.{get_or_past}
use Rattle.std.proofs.lemmas.List.Folds.{list_all-append}
use Rattle.hex.specs.Hex.{encode_lower, encode_with, lower_digits, IsBytes}
use Rattle.hex.proofs.HexLemmas.{length-encode_with}
use Rattle.hex_text.proofs.Written.{written_decodes}
use Rattle.rams_model.specs.declared.LineFault.{LineFault}
use Rattle.rams_model.specs.Texts.{text_of, spaced_words, is_digit, is_hex_digit, is_hex, hex_word, decoded, bytes_in, is_short, TraceLine, line_in_range, line_of, line_at, ranged, line_words, line_text, line_has_form, is_spelled}
use Rattle.line_io.specs.{HasNoFeed}
use Rattle.trace_lines.proofs.Hexes.{word_digits}
use Rattle.trace_lines.proofs.Spelled.{digits_of, and_both, is_word}
use Rattle.trace_text.proofs.Spelling.{spelled_is_read}
use Rattle.server_hub.specs.declared.HubEvent.{HubEvent}
use Rattle.server_hub.specs.declared.HubEvent.TheVariants.{Live, Feedback, Tick}
use Rattle.trace_loop.specs.trace_book.trace_serving.{brought}
use Rattle.trace_loop.specs.trace_book.{run}
use Rattle.trace_loop.specs.journal_book.{line_of_event, HasLine, event_line, event_lines}

-- none of the bytes is a line feed, as a test
abbrev pub has_no_feed : List ℕ → Bool
has_no_feed bytes = list_all (λ b. not (b == 10)) bytes

pub no_feed : (bytes : List ℕ) → has_no_feed bytes ≡ true → HasNoFeed bytes
no_feed [] h = tt
no_feed (b ∷ bytes) h = let parts = and_parts (not (b == 10)) (has_no_feed bytes) h in (not-true (b == 10) parts.0, no_feed bytes parts.1)

-- what passes one test passes another that asks for less
pub all_weaker : (p q : ℕ → Bool) → ((b : ℕ) → p b ≡ true → q b ≡ true) → (bytes : List ℕ) → list_all p bytes ≡ true → list_all q bytes ≡ true
all_weaker p q f [] h = refl
all_weaker p q f (b ∷ bytes) h = let parts = and_parts (p b) (list_all p bytes) h in and_both (f b parts.0) (all_weaker p q f bytes parts.1)

digit_other : (b : ℕ) → is_digit b ≡ true → not (b == 10) ≡ true
digit_other b h = grind (arith, nat_tests)

hex_digit_other : (b : ℕ) → is_hex_digit b ≡ true → not (b == 10) ≡ true
hex_digit_other b h = grind (arith, nat_tests)

in_decimal : (n : ℕ) → is_short n ≡ true → has_no_feed (decimal n) ≡ true
in_decimal n h = all_weaker is_digit (λ b. not (b == 10)) digit_other (decimal n) (digits_of n h)

in_hex : (word : List ℕ) → is_hex word ≡ true → has_no_feed word ≡ true
in_hex word h = by (bytes_eq word (codes "-")) refl
  where
    by : (t : Bool) → bytes_eq word (codes "-") ≡ t → has_no_feed word ≡ true
    by true dash = subst (λ (w : List ℕ). has_no_feed w ≡ true) (sym (is_word word (codes "-") dash)) refl
    by false other = all_weaker is_hex_digit (λ b. not (b == 10)) hex_digit_other word (word_digits word h other)

joined : (xs ys : List ℕ) → has_no_feed xs ≡ true → has_no_feed ys ≡ true → has_no_feed (xs ++ ys) ≡ true
joined xs ys h k = list_all-append (λ b. not (b == 10)) xs ys ∙ and_both h k

in_spaced : (words : List (List ℕ)) → list_all has_no_feed words ≡ true → has_no_feed (spaced_words words) ≡ true
in_spaced [] h = refl
in_spaced (word ∷ words) h =
    let parts = and_parts (has_no_feed word) (list_all has_no_feed words) h in
    joined word (spaced_words words) parts.0 (in_spaced words parts.1)

in_text : (words : List (List ℕ)) → list_all has_no_feed words ≡ true → has_no_feed (text_of words) ≡ true
in_text [] h = refl
in_text (word ∷ words) h =
    let parts = and_parts (has_no_feed word) (list_all has_no_feed words) h in
    joined word (spaced_words words) parts.0 (in_spaced words parts.1)

-- what the test of a line has
record IsSpelled (line : TraceLine) : Type 0 where
  form : line_has_form line ≡ true
  in_range : line_in_range line ≡ true

spelled_so : (line : TraceLine) → is_spelled line ≡ true → IsSpelled line
unfolding is_spelled
spelled_so line h =
    let outer = and_parts (line_has_form line && line_in_range line) _ h in
    let inner = and_parts (line_has_form line) (line_in_range line) outer.0 in
    record { form = inner.0; in_range = inner.1 }

words_clean : (event : HubEvent) → line_has_form (line_of_event event) ≡ true → list_all has_no_feed (line_words (line_of_event event)) ≡ true
words_clean (Live id bytes) h =
    let parts = and_parts (is_short id) (is_hex (hex_word bytes)) h in
    and_both (in_decimal id parts.0) (and_both (in_hex (hex_word bytes) parts.1) refl)
words_clean (Feedback id client bytes) h =
    let outer = and_parts (is_short id && is_short client) (is_hex (hex_word bytes)) h in
    let inner = and_parts (is_short id) (is_short client) outer.0 in
    and_both (in_decimal id inner.0) (and_both (in_decimal client inner.1) (and_both (in_hex (hex_word bytes) outer.1) refl))
words_clean Tick h = refl

text_clean : (event : HubEvent) → line_has_form (line_of_event event) ≡ true → HasNoFeed (line_text (line_of_event event))
unfolding line_text
text_clean event h = no_feed (text_of (line_words (line_of_event event))) (in_text (line_words (line_of_event event)) (words_clean event h))

-- what a line in range was read as
ranged_is : (o : Option TraceLine) (line : TraceLine) → ranged o ≡ Ok line → o ≡ Some line
ranged_is None line h = absurd cc
ranged_is (Some read) line h =
    cond_both (line_in_range read) (Ok read) (Err LineFault.Range) (λ (r : Result TraceLine LineFault). r ≡ Ok line → Some read ≡ Some line) (λ t q. cc) (λ f q. absurd cc) h

reads_back : (line : TraceLine) → is_spelled line ≡ true → line_of (line_text line) ≡ Some line
unfolding line_at
reads_back line h = ranged_is (line_of (line_text line)) line (spelled_is_read line h)

-- a byte with a hexadecimal digit is below 256
byte_of_digit : (b : ℕ) → is_hex_digit (get_or lower_digits (b / 16) 0) ≡ true → b < 256
byte_of_digit b h = by (ltb b 256) refl
  where
    by : (t : Bool) → ltb b 256 ≡ t → b < 256
    by true e = ltb-true b 256 e
    by false e =
        let above : 256 ≤ b = ltb-false b 256 e in
        let past : get_or lower_digits (b / 16) 0 ≡ 0 = get_or_past lower_digits (b / 16) 0 (omega arith) in
        let none : is_hex_digit 0 ≡ true = subst (λ (d : ℕ). is_hex_digit d ≡ true) past h in absurd cc

pub bytes_more : (b : ℕ) (bytes : List ℕ) → b < 256 → IsBytes bytes → IsBytes (b ∷ bytes)
bytes_more b bytes first rest zero = first
bytes_more b bytes first rest (suc i) = rest i

bytes_of_digits : (bytes : List ℕ) → list_all is_hex_digit (encode_lower bytes) ≡ true → IsBytes bytes
unfolding encode_with
bytes_of_digits [] h = λ i. let none = get_or_past {X = ℕ} [] i 0 (omega arith) in omega (arith, none)
bytes_of_digits (b ∷ bytes) h =
    let first = and_parts (is_hex_digit (get_or lower_digits (b / 16) 0)) (is_hex_digit (get_or lower_digits (b % 16) 0) && list_all is_hex_digit (encode_lower bytes)) h in
    let second = and_parts (is_hex_digit (get_or lower_digits (b % 16) 0)) (list_all is_hex_digit (encode_lower bytes)) first.1 in
    bytes_more b bytes (byte_of_digit b first.0) (bytes_of_digits bytes second.1)

no_dash : (bytes : List ℕ) (b : ℕ) (t : Bool) → bytes_eq (encode_lower (b ∷ bytes)) (codes "-") ≡ t → t ≡ false
no_dash bytes b false e = refl
no_dash bytes b true e =
    let same = is_word (encode_lower (b ∷ bytes)) (codes "-") e in
    let long = length-encode_with lower_digits (b ∷ bytes) in
    let short : length (encode_lower (b ∷ bytes)) ≡ 1 = ap length same in absurd (omega (arith, long, short))

-- bytes that have digits are what these decode to
pub bytes_back : (bytes : List ℕ) → is_hex (hex_word bytes) ≡ true → bytes_in (hex_word bytes) ≡ bytes
bytes_back [] h = refl
bytes_back (b ∷ bytes) h =
    let digits = word_digits (encode_lower (b ∷ bytes)) h (no_dash bytes b _ refl) in
    ap decoded (written_decodes (b ∷ bytes) (bytes_of_digits (b ∷ bytes) digits))

brings_back : (event : HubEvent) → line_has_form (line_of_event event) ≡ true → brought run (line_of_event event) ≡ Some event
brings_back (Live id bytes) h = ap (λ (bs : List ℕ). Some (Live id bs)) (bytes_back bytes (and_parts (is_short id) (is_hex (hex_word bytes)) h).1)
brings_back (Feedback id client bytes) h =
    ap (λ (bs : List ℕ). Some (Feedback id client bs)) (bytes_back bytes (and_parts (is_short id && is_short client) (is_hex (hex_word bytes)) h).1)
brings_back Tick h = refl

-- What the line of an event is.
pub record IsEventLine (event : HubEvent) : Type 0 where
  pub clean : HasNoFeed (line_text (line_of_event event))
  pub reads : line_of (line_text (line_of_event event)) ≡ Some (line_of_event event)
  pub in_range : line_in_range (line_of_event event) ≡ true
  pub brings : brought run (line_of_event event) ≡ Some event

pub event_line_is : (event : HubEvent) → HasLine event → IsEventLine event
event_line_is event h =
    let so = spelled_so (line_of_event event) h in
    record { clean = text_clean event so.form; reads = reads_back (line_of_event event) h; in_range = so.in_range; brings = brings_back event so.form }

-- the lines of some events and of more
pub lines_append : (xs ys : List HubEvent) → event_lines (xs ++ ys) ≡ event_lines xs ++ event_lines ys
lines_append [] ys = refl
lines_append (x ∷ xs) ys = ap (λ (l : List ℕ). event_line x ++ l) (lines_append xs ys) ∙ sym (append_assoc (event_line x) (event_lines xs) (event_lines ys))
