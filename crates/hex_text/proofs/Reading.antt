-- Steps of the loops over pairs of digits, and what the pairs of a text decode to.
use Rattle.std.proofs.Common.{◌≡◌, ℕ, ◌+◌, ◌-◌, ◌*◌, ◌/◌, ◌%◌, ◌<◌, ◌≤◌, Bool, true, false, ◌&&◌, ◌==◌, nat_lt, List, [], ◌∷◌, ◌++◌, length, take, drop, slice_index, slice_set, Ok, refl, sym, ap, ◌∙◌, arith, suc, zero}
use Rattle.std.proofs.lemmas.Bool.{and_parts, eqb-true}
use Rattle.std.proofs.lemmas.List.{append_assoc, append-nil, drop_all, take_all, take_at, take-take, take_more_set, length-drop, length-take-le, drop-drop}
use Rattle.std.proofs.lemmas.Slice.{take-put_mid}
use borrow.Rule.Slice.PartMut.{put_mid}
use Rattle.std.proofs.lemmas.List.Folds.{list_all_more}
use Rattle.std.specs.Bool.{OnTrue}
use Rattle.std.specs.List.{list_all}
use Rattle.hex.specs.Hex.{decode_of, decode_pairs, pair_value}
use Rattle.hex.proofs.HexLemmas.{decode_of-even}
use Rattle.hex.proofs.Pairs.{cons_byte, decode_pairs-ok_pair, drop-pair}
use Rattle.hex_text.specs.{is_lower_digit, value_of, pair_byte, pair_bytes}
use Rattle.hex_text.proofs.Digits.{is_lower-value_of, hex_digit_value-lower}

-- two digits more
pub digits_more : (text : List ℕ) (i high low : ℕ) (good : Bool) → 2 * i + 1 < length text
    → high ≡ value_of (slice_index text (2 * i)) → low ≡ value_of (slice_index text (2 * i + 1))
    → good ≡ list_all is_lower_digit (take (2 * i) text)
    → (good && (nat_lt high 16 && nat_lt low 16)) ≡ list_all is_lower_digit (take (2 * (i + 1)) text)
digits_more text i high low good fits eh el inv =
    let two : 2 * (i + 1) ≡ 2 * i + 1 + 1 = omega arith in
    let a = list_all_more is_lower_digit text (2 * i) 0 (omega arith) in
    let b = list_all_more is_lower_digit text (2 * i + 1) 0 fits in
    let h : nat_lt high 16 ≡ is_lower_digit (slice_index text (2 * i)) = rw eh (is_lower-value_of (slice_index text (2 * i))) in
    let l : nat_lt low 16 ≡ is_lower_digit (slice_index text (2 * i + 1)) = rw el (is_lower-value_of (slice_index text (2 * i + 1))) in
    rw (two, b, a, inv, h, l) (sym (and_assoc (list_all is_lower_digit (take (2 * i) text)) (is_lower_digit (slice_index text (2 * i))) (is_lower_digit (slice_index text (2 * i + 1)))))
  where
    and_assoc : (x y z : Bool) → ((x && y) && z) ≡ (x && (y && z))
    and_assoc true y z = refl
    and_assoc false y z = refl

pair_bytes-drop : (text : List ℕ) (i : ℕ) → 2 * i + 1 < length text
    → pair_bytes (drop (2 * i) text) ≡ pair_byte (slice_index text (2 * i)) (slice_index text (2 * i + 1)) ∷ pair_bytes (drop (2 * (i + 1)) text)
unfolding pair_bytes
pair_bytes-drop text i fits = rw (drop-pair text i fits) refl

-- a byte more
pub bytes_more : (text out : List ℕ) (i high low : ℕ) → 2 * i + 1 < length text → i < length out
    → high ≡ value_of (slice_index text (2 * i)) → low ≡ value_of (slice_index text (2 * i + 1))
    → take i out ++ pair_bytes (drop (2 * i) text) ≡ pair_bytes text
    → take (i + 1) (slice_set out i (high % 16 * 16 + low % 16)) ++ pair_bytes (drop (2 * (i + 1)) text) ≡ pair_bytes text
bytes_more text out i high low fits room eh el inv =
    let front = take_more_set out i (high % 16 * 16 + low % 16) room in
    let rest = pair_bytes-drop text i fits in
    rw (front, append_assoc, eh, el) (rw rest at inv)

-- all the bytes
pub bytes_all : (text out : List ℕ) (i : ℕ) → length out ≤ i → length text ≤ 2 * i
    → take i out ++ pair_bytes (drop (2 * i) text) ≡ pair_bytes text → out ≡ pair_bytes text
unfolding pair_bytes
bytes_all text out i all read inv =
    let d = drop_all (2 * i) text read in
    let a = take_all i out all in
    rw (d, a, append-nil) at inv

-- a text of pairs of lower-case digits decodes
pub decode_pairs-lower : (i : ℕ) (text : List ℕ) → length text % 2 ≡ 0 → list_all is_lower_digit text ≡ true
    → decode_pairs i text ≡ Ok (pair_bytes text)
unfolding decode_pairs pair_bytes
decode_pairs-lower i [] even lower = refl
decode_pairs-lower i (digit ∷ []) even lower = absurd (omega arith)
decode_pairs-lower i (high ∷ low ∷ rest) even lower =
    let first = and_parts (is_lower_digit high) (list_all is_lower_digit (low ∷ rest)) lower in
    let second = and_parts (is_lower_digit low) (list_all is_lower_digit rest) first.1 in
    let h = hex_digit_value-lower high first.0 in
    let l = hex_digit_value-lower low second.0 in
    let pair : pair_value high low i ≡ Ok (pair_byte high low) = rw (h, l) refl in
    decode_pairs-ok_pair i high low (pair_byte high low) rest pair
    ∙ ap (cons_byte (pair_byte high low)) (decode_pairs-lower (i + 2) rest (omega arith) second.1)

pub decode_of-lower : (text : List ℕ) → length text % 2 ≡ 0 → list_all is_lower_digit text ≡ true → decode_of text ≡ Ok (pair_bytes text)
decode_of-lower text even lower = decode_of-even text even ∙ decode_pairs-lower 0 text even lower

-- where the pairs are lower-case digits, and no digit is left, the text decodes
pub whole_decodes : (text pairs odd out : List ℕ) (n : ℕ) (good none : Bool) → n ≡ length text / 2
    → pairs ≡ take (2 * n) text → odd ≡ drop (2 * n) text → good ≡ list_all is_lower_digit pairs → none ≡ (length odd == 0)
    → out ≡ pair_bytes pairs → OnTrue (good && none) (decode_of text ≡ Ok out)
whole_decodes text pairs odd out n false none half front back lower empty bytes = tt
whole_decodes text pairs odd out n true false half front back lower empty bytes = tt
whole_decodes text pairs odd out n true true half front back lower empty bytes =
    let none_left : length odd ≡ 0 = eqb-true (length odd) 0 (sym empty) in
    let long : length text ≤ 2 * n = omega (arith, length-drop (2 * n) text, ap length back) in
    let all : pairs ≡ text = front ∙ take_all (2 * n) text long in
    rw (bytes, all) (decode_of-lower text (omega arith) (sym (rw all at lower)))

-- the bytes of the first pairs, and of the others
pair_bytes-split : (i : ℕ) (text : List ℕ) → 2 * i ≤ length text → pair_bytes text ≡ pair_bytes (take (2 * i) text) ++ pair_bytes (drop (2 * i) text)
unfolding pair_bytes
pair_bytes-split zero text within = refl
pair_bytes-split (suc i) [] within = absurd (omega arith)
pair_bytes-split (suc i) (digit ∷ []) within = absurd (omega arith)
pair_bytes-split (suc i) (high ∷ low ∷ rest) within =
    let two : 2 * suc i ≡ suc (suc (2 * i)) = omega arith in
    rw two (ap (λ bytes. pair_byte high low ∷ bytes) (pair_bytes-split i rest (omega arith)))

-- 16 bytes more
pub bytes_part : (text out block : List ℕ) (k size room : ℕ) → size ≡ 32 → 32 * k + 32 ≤ length text → 16 * k ≤ length out → length block ≡ 16
    → block ≡ pair_bytes (take size (drop (32 * k) text)) → take (16 * k) out ++ pair_bytes (drop (32 * k) text) ≡ pair_bytes text
    → take (16 * (k + 1)) (put_mid (16 * k) room out block) ++ pair_bytes (drop (32 * (k + 1)) text) ≡ pair_bytes text
bytes_part text out block k size room is_32 fits within long is inv =
    let front = take-put_mid (16 * k) room out block (16 * (k + 1)) (omega arith) within in
    let more : 32 * (k + 1) ≡ 32 * k + 32 = omega arith in
    let rest : drop (32 * (k + 1)) text ≡ drop (2 * 16) (drop (32 * k) text) = rw more (sym (drop-drop 32 (32 * k) text)) in
    let some : length (drop (32 * k) text) ≡ length text - 32 * k = length-drop (32 * k) text in
    let split = pair_bytes-split 16 (drop (32 * k) text) (omega arith) in
    let whole : pair_bytes (drop (32 * k) text) ≡ block ++ pair_bytes (drop (32 * (k + 1)) text) = rw (rest, is, is_32) split in
    rw (front, append_assoc) (rw whole at inv)

length-pair_bytes : (text : List ℕ) → length text % 2 ≡ 0 → 2 * length (pair_bytes text) ≡ length text
unfolding pair_bytes
length-pair_bytes [] even = refl
length-pair_bytes (digit ∷ []) even = absurd (omega arith)
length-pair_bytes (high ∷ low ∷ rest) even = omega (arith, length-pair_bytes rest (omega arith))

-- the first bytes
pair_bytes-take : (i : ℕ) (text : List ℕ) → 2 * i ≤ length text → take i (pair_bytes text) ≡ pair_bytes (take (2 * i) text)
pair_bytes-take i text within =
    let long = length-take-le (2 * i) text within in
    ap (take i) (pair_bytes-split i text within)
    ∙ take_at (pair_bytes (take (2 * i) text)) (pair_bytes (drop (2 * i) text)) i (omega (arith, length-pair_bytes (take (2 * i) text) (omega (arith, long)), long))

-- a last block, of which a part is there already
pub bytes_last : (text out block : List ℕ) (done room : ℕ) → 16 ≤ length out → length out < done + 16 → done ≤ length out → length text ≡ 2 * length out
    → room ≡ length out - (length out - 16) → block ≡ pair_bytes (drop (2 * (length out - 16)) text) → take done out ++ pair_bytes (drop (2 * done) text) ≡ pair_bytes text
    → put_mid (length out - 16) room out block ≡ pair_bytes text
bytes_last text out block done room long short within whole is_room is inv =
    let first = length out - 16 in
    let there : take done (pair_bytes text) ≡ take done out =
    ap (take done) (sym inv) ∙ take_at (take done out) (pair_bytes (drop (2 * done) text)) done (length-take-le done out (omega arith)) in
    let front : take first out ≡ pair_bytes (take (2 * first) text) =
    sym (take-take first done out (omega arith))
    ∙ (ap (take first) (sym there) ∙ (take-take first done (pair_bytes text) (omega arith) ∙ pair_bytes-take first text (omega arith))) in
    let none : drop room (drop first out) ≡ [] = drop_all room (drop first out) (omega (arith, length-drop first out)) in
    ap (λ (l : List ℕ). l ++ (block ++ drop room (drop first out))) front
    ∙ (ap (λ (l : List ℕ). pair_bytes (take (2 * first) text) ++ (block ++ l)) none
    ∙ (ap (λ (l : List ℕ). pair_bytes (take (2 * first) text) ++ l) (append-nil block ∙ is) ∙ sym (pair_bytes-split first text (omega arith))))
