-- The words of a NACK, packed from the front.
use Rattle.std.proofs.Common.{◌≡◌, ℕ, zero, suc, ◌+◌, ◌-◌, ◌*◌, ◌/◌, ◌%◌, ◌^◌, ◌≤◌, ◌<◌, Bool, true, false, List, [], ◌∷◌, ◌++◌, length, drop, get_or, set, refl, sym, ◌∙◌, ap, arith, append_assoc, length-append, ltb, leb}
use Rattle.std.specs.Prelude.{if◌then◌else◌, ◌&&◌, nat_lt, nat_le}
use Rattle.std.specs.Int.{w16, w32, to_be_bytes}
use Rattle.std.proofs.lemmas.List.{drop_more, drop_all}
use Rattle.std.proofs.lemmas.Bool.{and_parts, ltb-true, leb-true}
use Rattle.std.proofs.Math.Nat.{pow-suc, pow-le-pow_right}
use Rattle.rams_model.specs.Formats.{transport_feedback, distance, words_from, nack_words}

-- a number that joins the word
pub joins_word : (text all xs : List ℕ) (i pid blp last d b : ℕ) → i < length xs → d ≡ distance pid (get_or xs i 0) → (nat_lt last d && nat_le d 16) ≡ true → b ≡ 2 ^ (d - 1)
    → text ++ words_from pid blp last (drop i xs) ≡ all → text ++ words_from pid (blp + b) d (drop (i + 1) xs) ≡ all
unfolding words_from
joins_word text all xs i pid blp last d b h far joins bit whole =
    let n = get_or xs i 0 in
    let others = words_from pid (blp + 2 ^ (distance pid n - 1)) (distance pid n) (drop (i + 1) xs) in
    let own = to_be_bytes w16 pid ++ to_be_bytes w16 blp ++ words_from n 0 0 (drop (i + 1) xs) in
    let is : (nat_lt last (distance pid n) && nat_le (distance pid n) 16) ≡ true = ap (λ (k : ℕ). nat_lt last k && nat_le k 16) (sym far) ∙ joins in
    let step : words_from pid blp last (drop i xs) ≡ others = ap (words_from pid blp last) (drop_more xs i 0 h) ∙ ap (λ (c : Bool). if c then others else own) is in
    rw (bit, far) (ap (λ (l : List ℕ). text ++ l) (sym step) ∙ whole)

-- a number that begins the next one
pub begins_word : (text more all xs : List ℕ) (i pid blp last d : ℕ) → i < length xs → d ≡ distance pid (get_or xs i 0) → (nat_lt last d && nat_le d 16) ≡ false
    → more ≡ text ++ (to_be_bytes w16 pid ++ to_be_bytes w16 blp) → text ++ words_from pid blp last (drop i xs) ≡ all → more ++ words_from (get_or xs i 0) 0 0 (drop (i + 1) xs) ≡ all
unfolding words_from
begins_word text more all xs i pid blp last d h far begins written whole =
    let n = get_or xs i 0 in
    let others = words_from pid (blp + 2 ^ (distance pid n - 1)) (distance pid n) (drop (i + 1) xs) in
    let word = to_be_bytes w16 pid ++ to_be_bytes w16 blp in
    let next = words_from n 0 0 (drop (i + 1) xs) in
    let is : (nat_lt last (distance pid n) && nat_le (distance pid n) 16) ≡ false = ap (λ (k : ℕ). nat_lt last k && nat_le k 16) (sym far) ∙ begins in
    let step : words_from pid blp last (drop i xs) ≡ word ++ next = ap (words_from pid blp last) (drop_more xs i 0 h) ∙ ap (λ (c : Bool). if c then others else word ++ next) is in
    ap (λ (l : List ℕ). l ++ next) written ∙ append_assoc text word next ∙ ap (λ (l : List ℕ). text ++ l) (sym step) ∙ whole

-- the last word
pub ends_words : (text more all xs : List ℕ) (i pid blp last : ℕ) → length xs ≤ i → more ≡ text ++ (to_be_bytes w16 pid ++ to_be_bytes w16 blp)
    → text ++ words_from pid blp last (drop i xs) ≡ all → more ≡ all
unfolding words_from
ends_words text more all xs i pid blp last h written whole =
    written ∙ ap (λ (l : List ℕ). text ++ l) (sym (ap (words_from pid blp last) (drop_all i xs h))) ∙ whole

-- the bits stay below the next one
pub bits_below : (blp last d b : ℕ) → blp < 2 ^ last → (nat_lt last d && nat_le d 16) ≡ true → b ≡ 2 ^ (d - 1) → blp + b < 2 ^ d
bits_below blp last zero b h joins bit = absurd (omega (arith, ltb-true last 0 (and_parts (ltb last 0) (leb 0 16) joins).0))
bits_below blp last (suc d) b h joins bit =
    let below : last < suc d = ltb-true last (suc d) (and_parts (ltb last (suc d)) (leb (suc d) 16) joins).0 in
    let power : 2 ^ last ≤ 2 ^ d = pow-le-pow_right (omega arith) (omega arith) in
    let same : b ≡ 2 ^ d = bit ∙ ap (λ (k : ℕ). 2 ^ k) (omega arith) in
    omega (arith, pow-suc 2 d, power, same)

either : (b : Bool) (xs ys : List ℕ) (n : ℕ) → (length xs ≤ n) × (length xs % 4 ≡ 0) → (length ys ≤ n) × (length ys % 4 ≡ 0)
    → (length (if b then xs else ys) ≤ n) × (length (if b then xs else ys) % 4 ≡ 0)
either true xs ys n h k = h
either false xs ys n h k = k

-- each number begins at most one word of four bytes
words_length : (pid blp last : ℕ) (ns : List ℕ) → (length (words_from pid blp last ns) ≤ 4 * (length ns + 1)) × (length (words_from pid blp last ns) % 4 ≡ 0)
unfolding words_from
words_length pid blp last [] = (omega arith, refl)
words_length pid blp last (n ∷ ns) =
    let d = distance pid n in
    let own = words_length n 0 0 ns in
    let joined = words_length pid (blp + 2 ^ (d - 1)) d ns in
    either (nat_lt last d && nat_le d 16) (words_from pid (blp + 2 ^ (d - 1)) d ns) (to_be_bytes w16 pid ++ to_be_bytes w16 blp ++ words_from n 0 0 ns) (4 * (length (n ∷ ns) + 1))
    (omega arith, joined.1) (omega arith, omega arith)

pub nack_length : (ns : List ℕ) → (length (nack_words ns) ≤ 4 * length ns) × (length (nack_words ns) % 4 ≡ 0)
nack_length [] = (omega arith, refl)
nack_length (n ∷ ns) = let l = words_length n 0 0 ns in (omega arith, l.1)

-- the two bytes behind the first two are written over
pub length_written : (old rest : List ℕ) (a b c d high low : ℕ) → set (set (old ++ a ∷ b ∷ c ∷ d ∷ rest) (length old + 2) high) (length old + 3) low ≡ old ++ a ∷ b ∷ high ∷ low ∷ rest
length_written [] rest a b c d high low = refl
length_written (x ∷ old) rest a b c d high low =
    let two : length (x ∷ old) + 2 ≡ suc (length old + 2) = omega arith in
    let three : length (x ∷ old) + 3 ≡ suc (length old + 3) = omega arith in
    rw (two, three) (ap (λ (l : List ℕ). x ∷ l) (length_written old rest a b c d high low))

pub bits_few : (last d : ℕ) → (nat_lt last d && nat_le d 16) ≡ true → d ≤ 16
bits_few last d joins = leb-true d 16 (and_parts (ltb last d) (leb d 16) joins).1

-- the whole packet, when its length is written over
pub nack_text : (old head first both fci bytes : List ℕ) (sender media start words : ℕ) → head ≡ 129 ∷ 205 ∷ 0 ∷ 0 ∷ (to_be_bytes w32 sender ++ to_be_bytes w32 media)
    → first ≡ old ++ head → both ≡ first ++ fci → start ≡ length old → length fci % 4 ≡ 0 → words ≡ (length both - start) / 4 - 1 → bytes ≡ to_be_bytes w16 words
    → set (set both (start + 2) (get_or bytes 0 0)) (start + 3) (get_or bytes 1 0) ≡ old ++ transport_feedback 1 sender media fci
nack_text old head first both fci bytes sender media start words eh e1 e2 es whole ew eb =
    let sources = to_be_bytes w32 sender ++ to_be_bytes w32 media in
    let text : both ≡ old ++ 129 ∷ 205 ∷ 0 ∷ 0 ∷ (sources ++ fci) =
    e2 ∙ ap (λ (l : List ℕ). l ++ fci) (e1 ∙ ap (λ (l : List ℕ). old ++ l) eh) ∙ append_assoc old (129 ∷ 205 ∷ 0 ∷ 0 ∷ sources) fci in
    let long = ap length text ∙ length-append old (129 ∷ 205 ∷ 0 ∷ 0 ∷ (sources ++ fci)) in
    let count : words ≡ 2 + length fci / 4 = omega (arith, long) in
    rw (text, es, eb, count) (length_written old (sources ++ fci) 129 205 0 0 ((2 + length fci / 4) / 256 % 256) ((2 + length fci / 4) % 256))

either_long : (b : Bool) (xs ys : List ℕ) → 4 ≤ length xs → 4 ≤ length ys → 4 ≤ length (if b then xs else ys)
either_long true xs ys h k = h
either_long false xs ys h k = k

-- a word is still to come
word_left : (pid blp last : ℕ) (ns : List ℕ) → 4 ≤ length (words_from pid blp last ns)
unfolding words_from
word_left pid blp last [] = omega arith
word_left pid blp last (n ∷ ns) =
    let d = distance pid n in
    either_long (nat_lt last d && nat_le d 16) (words_from pid (blp + 2 ^ (d - 1)) d ns) (to_be_bytes w16 pid ++ to_be_bytes w16 blp ++ words_from n 0 0 ns)
    (word_left pid (blp + 2 ^ (d - 1)) d ns) (omega arith)

-- so all words are longer by four bytes at least than what is written
pub room_for_word : (text old all ns : List ℕ) (pid blp last : ℕ) → text ++ words_from pid blp last ns ≡ old ++ all → length text + 4 ≤ length old + length all
room_for_word text old all ns pid blp last whole =
    omega (arith, word_left pid blp last ns, ap length whole, length-append text (words_from pid blp last ns), length-append old all)

-- what stood before a word is still there behind it
pub kept_behind : (old some text word more : List ℕ) → text ≡ old ++ some → more ≡ text ++ word → more ≡ old ++ (some ++ word)
kept_behind old some text word more is written = written ∙ ap (λ (l : List ℕ). l ++ word) is ∙ append_assoc old some word
