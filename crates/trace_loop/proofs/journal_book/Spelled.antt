-- What can come has a line that a trace may have.
use Rattle.std.proofs.Common.{◌≡◌, ℕ, suc, ◌^◌, ◌<◌, ◌≤◌, Bool, true, false, ◌&&◌, ◌||◌, nat_lt, List, [], ◌∷◌, ◌++◌, length, codes, bytes_eq, decimal, refl, arith, length-append}
use Rattle.std.specs.Prelude.{All}
use Rattle.std.proofs.lemmas.Bool.{lt-ltb}
use Rattle.std.proofs.lemmas.Bool.Decides.{nat_tests}
use Rattle.std.proofs.lemmas.Fmt.{length-decimal-le}
use Rattle.std.proofs.lemmas.List.{get_or_past}
use Rattle.hex.specs.Hex.{encode_lower, lower_digits, IsBytes}
use Rattle.hex.proofs.HexLemmas.{length-encode_with}
use Rattle.hex_text.proofs.Written.{written_is_lower}
use Rattle.rams_model.specs.Texts.{is_hex, hex_word, id_in_range, line_text, is_spelled}
use Rattle.trace_lines.proofs.Spelled.{and_both, short_true}
use Rattle.trace_text.proofs.Spelling.{le_true}
use Rattle.server_hub.specs.declared.HubEvent.TheVariants.{Live, Feedback, Tick}
use Rattle.trace_loop.specs.journal_book.{IsDatagramOf, EventsAreSpelled}
use Rattle.trace_loop.proofs.journal_book.EventLines.{bytes_more}

all_bytes : (bytes : List ℕ) → All (λ b. b < 256) bytes → IsBytes bytes
all_bytes [] h = λ i. let none = get_or_past {X = ℕ} [] i 0 (omega arith) in omega (arith, none)
all_bytes (b ∷ bytes) h = bytes_more b bytes (h 0 b (omega arith)) (all_bytes bytes (λ k d less. h (suc k) d (omega (arith, less))))

-- the word of bytes: digits, two for each
hex_is : (bytes : List ℕ) → All (λ b. b < 256) bytes → is_hex (hex_word bytes) ≡ true
hex_is [] h = refl
hex_is (b ∷ bytes) h =
    let lower = written_is_lower (b ∷ bytes) (all_bytes (b ∷ bytes) h) in
    let long = length-encode_with lower_digits (b ∷ bytes) in
    let some : nat_lt 0 (length (encode_lower (b ∷ bytes))) ≡ true = lt-ltb 0 (length (encode_lower (b ∷ bytes))) (omega (arith, long)) in
    has_digits (bytes_eq (encode_lower (b ∷ bytes)) (codes "-")) (nat_lt 0 (length (encode_lower (b ∷ bytes)))) _ _ some lower
  where
    has_digits : (dash long even digits : Bool) → long ≡ true → (even && digits) ≡ true → (dash || ((long && even) && digits)) ≡ true
    has_digits true long even digits l h = refl
    has_digits false true even digits l h = h
    has_digits false false even digits l h = absurd cc

hex_short : (bytes : List ℕ) → length bytes ≤ 2000 → length (hex_word bytes) ≤ 4000
hex_short [] h = omega arith
hex_short (b ∷ bytes) h = let long = length-encode_with lower_digits (b ∷ bytes) in omega (arith, long)

decimal_short : (n : ℕ) → n < 10 ^ 15 → length (decimal n) ≤ 15
decimal_short n h = length-decimal-le 15 n (omega arith) h (omega arith)

id_short : (id : ℕ) (bytes : List ℕ) → IsDatagramOf id bytes → id < 10 ^ 15
id_short id bytes is = let most = is.number.most in omega (arith, most)

id_is : (id : ℕ) (bytes : List ℕ) → IsDatagramOf id bytes → id_in_range id ≡ true
id_is id bytes is = in_range id is.number.least is.number.most
  where
    in_range : (n : ℕ) → 1 ≤ n → n ≤ 65535 → id_in_range n ≡ true
    in_range n low high = grind (arith, nat_tests)

-- a name, a word and another word
two_words : (name first second : List ℕ) → length name ≤ 4 → length first ≤ 15 → length second ≤ 4000 → length (name ++ (32 ∷ (first ++ (32 ∷ (second ++ []))))) ≤ 4096
two_words name first second short few many =
    omega (arith, length-append name (32 ∷ (first ++ (32 ∷ (second ++ [])))), length-append first (32 ∷ (second ++ [])), length-append second [])

three_words : (name first second third : List ℕ) → length name ≤ 4 → length first ≤ 15 → length second ≤ 15 → length third ≤ 4000
    → length (name ++ (32 ∷ (first ++ (32 ∷ (second ++ (32 ∷ (third ++ []))))))) ≤ 4096
three_words name first second third short few more many =
    omega (
      arith,
      length-append name (32 ∷ (first ++ (32 ∷ (second ++ (32 ∷ (third ++ [])))))),
      length-append first (32 ∷ (second ++ (32 ∷ (third ++ [])))),
      length-append second (32 ∷ (third ++ [])),
      length-append third [],
    )

pub events_are_spelled : EventsAreSpelled
unfolding is_spelled line_text
events_are_spelled (Live id bytes) is =
    let small = id_short id bytes is in
    let short = two_words (codes "live") (decimal id) (hex_word bytes) (omega arith) (decimal_short id small) (hex_short bytes is.short) in
    and_both (and_both (and_both (short_true id small) (hex_is bytes is.octets)) (id_is id bytes is)) (le_true _ short)
events_are_spelled (Feedback id client bytes) is =
    let small = id_short id bytes is.0 in
    let sender : client < 10 ^ 15 = let below = is.1 in omega (arith, below) in
    let short = three_words (codes "fb") (decimal id) (decimal client) (hex_word bytes) (omega arith) (decimal_short id small) (decimal_short client sender) (hex_short bytes is.0.short) in
    and_both (and_both (and_both (and_both (short_true id small) (short_true client sender)) (hex_is bytes is.0.octets)) (and_both (id_is id bytes is.0) (lt-ltb client (2 ^ 48) is.1))) (le_true _ short)
events_are_spelled Tick is = refl
