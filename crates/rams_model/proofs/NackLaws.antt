-- The words of a NACK name the numbers that were packed into them.
use Rattle.std.proofs.Common.{◌≡◌, ℕ, zero, suc, ◌+◌, ◌-◌, ◌*◌, ◌/◌, ◌%◌, ◌^◌, ◌≤◌, ◌<◌, Bool, true, false, List, [], ◌∷◌, ◌++◌, length, map, refl, sym, ◌∙◌, ap, arith, append_assoc, pow-add, eq-eqb, ltb, leb, add-one, ⊎_elim}
use Rattle.std.specs.Prelude.{if◌then◌else◌, ◌&&◌, ◌==◌, nat_lt, nat_le, filter, Ok}
use Rattle.std.specs.List.{AllByRecursion}
use Rattle.std.specs.Int.{w16, to_be_bytes, from_be_bytes, bit_at}
use Rattle.std.proofs.Math.Nat.{pow-suc, pow-le-pow_right}
use Rattle.std.proofs.lemmas.Nat.{shr_high, mod_below, div-add-mod', from_be_bytes-to_be_bytes_2}
use Rattle.std.proofs.lemmas.Bool.{ne_eqb, and_parts, ltb-true, leb-true, cases_lt}
use Rattle.rams_model.specs.Formats.{counted_from, word_numbers, numbers_of, distance, words_from, nack_words, nack_numbers}
use Rattle.rams_model.proofs.ListFacts.{map_cond}

-- the numbers that n bits of a word name, from bit i on
marked : ℕ → ℕ → ℕ → ℕ → List ℕ
marked pid blp i n = map (λ i. (pid + i) % 65536) (filter (λ i. bit_at blp (i - 1) == 1) (counted_from i n))

marked_step : (pid blp i n : ℕ) → marked pid blp i (suc n) ≡ (if bit_at blp (i - 1) == 1 then (pid + i) % 65536 ∷ marked pid blp (i + 1) n else marked pid blp (i + 1) n)
unfolding marked
marked_step pid blp i n = map_cond (λ i. (pid + i) % 65536) (bit_at blp (i - 1) == 1) i (filter (λ i. bit_at blp (i - 1) == 1) (counted_from (i + 1) n))

marked_set : (pid blp i n : ℕ) → bit_at blp (i - 1) ≡ 1 → marked pid blp i (suc n) ≡ (pid + i) % 65536 ∷ marked pid blp (i + 1) n
marked_set pid blp i n h = let is : (bit_at blp (i - 1) == 1) ≡ true = eq-eqb (bit_at blp (i - 1)) 1 h in
    marked_step pid blp i n ∙ ap (λ b. if b then (pid + i) % 65536 ∷ marked pid blp (i + 1) n else marked pid blp (i + 1) n) is

marked_clear : (pid blp i n : ℕ) → (bit_at blp (i - 1) ≡ 1 → ⊥) → marked pid blp i (suc n) ≡ marked pid blp (i + 1) n
marked_clear pid blp i n h = let is : (bit_at blp (i - 1) == 1) ≡ false = ne_eqb (bit_at blp (i - 1)) 1 h in
    marked_step pid blp i n ∙ ap (λ b. if b then (pid + i) % 65536 ∷ marked pid blp (i + 1) n else marked pid blp (i + 1) n) is

-- the bits of a number below 2 ^ j
high_clear : (m j : ℕ) → m < 2 ^ j → bit_at m j ≡ 0
high_clear m j h = let none : m / 2 ^ j ≡ 0 = ap (λ (x : ℕ). x / 2 ^ j) (omega arith) ∙ shr_high 0 j m h in omega (arith, none)

own_set : (m j : ℕ) → m < 2 ^ j → bit_at (m + 2 ^ j) j ≡ 1
own_set m j h = let one : (m + 2 ^ j) / 2 ^ j ≡ 1 = ap (λ (x : ℕ). x / 2 ^ j) (omega arith) ∙ shr_high 1 j m h in omega (arith, one)

lower_same : (m j k : ℕ) → j < k → bit_at (m + 2 ^ k) j ≡ bit_at m j
lower_same m j k h =
    let e = k - j - 1 in
    let power : 2 ^ k ≡ 2 ^ suc e * 2 ^ j = ap (λ (x : ℕ). 2 ^ x) (omega arith) ∙ pow-add 2 (suc e) j in
    let positive : 1 ≤ 2 ^ j = pow-le-pow_right {n = 2} (omega arith) {i = 0} {j = j} (omega arith) in
    let parts : m + 2 ^ k ≡ (m / 2 ^ j + 2 ^ suc e) * 2 ^ j + m % 2 ^ j = omega (arith, power, div-add-mod' m (2 ^ j)) in
    let small : m % 2 ^ j < 2 ^ j = mod_below m (2 ^ j) (omega (arith, positive)) in
    let quotient : (m + 2 ^ k) / 2 ^ j ≡ m / 2 ^ j + 2 ^ suc e = ap (λ (x : ℕ). x / 2 ^ j) parts ∙ shr_high (m / 2 ^ j + 2 ^ suc e) j (m % 2 ^ j) small in
    omega (arith, quotient, pow-suc 2 e)

marked_none : (n pid m i j : ℕ) → i ≡ j + 1 → m < 2 ^ j → marked pid m i n ≡ []
unfolding marked
marked_none zero pid m i j e h = refl
marked_none (suc n) pid m i j e h =
    let place : i - 1 ≡ j = omega arith in
    let clear : bit_at m (i - 1) ≡ 0 = ap (bit_at m) place ∙ high_clear m j h in
    let more : m < 2 ^ (j + 1) = omega (arith, h, pow-suc 2 j, ap (λ (x : ℕ). 2 ^ x) (add-one j)) in
    marked_clear pid m i n (λ one. omega (arith, one, clear)) ∙ marked_none n pid m (i + 1) (j + 1) (omega arith) more

cond_append : (b : Bool) (x : ℕ) (xs ys : List ℕ) → (if b then x ∷ (xs ++ ys) else xs ++ ys) ≡ (if b then x ∷ xs else xs) ++ ys
cond_append true x xs ys = refl
cond_append false x xs ys = refl

-- one bit more, above the others, names one number more, behind the others
marked_more : (n pid m i k : ℕ) → 1 ≤ i → i ≤ k → k < i + n → m < 2 ^ (k - 1) → marked pid (m + 2 ^ (k - 1)) i n ≡ marked pid m i n ++ (pid + k) % 65536 ∷ []
marked_more zero pid m i k low high within small = absurd (omega arith)
marked_more (suc n) pid m i k low high within small =
    ⊎_elim
    (λ (below : i < k).
    let same : bit_at (m + 2 ^ (k - 1)) (i - 1) ≡ bit_at m (i - 1) = lower_same m (i - 1) (k - 1) (omega arith) in
    let others = marked_more n pid m (i + 1) k (omega arith) (omega arith) (omega arith) small in
    let last : List ℕ = (pid + k) % 65536 ∷ [] in
    marked_step pid (m + 2 ^ (k - 1)) i n
    ∙ ap (λ (b : ℕ). if b == 1 then (pid + i) % 65536 ∷ marked pid (m + 2 ^ (k - 1)) (i + 1) n else marked pid (m + 2 ^ (k - 1)) (i + 1) n) same
    ∙ ap (λ (l : List ℕ). if bit_at m (i - 1) == 1 then (pid + i) % 65536 ∷ l else l) others
    ∙ cond_append (bit_at m (i - 1) == 1) ((pid + i) % 65536) (marked pid m (i + 1) n) last
    ∙ ap (λ (l : List ℕ). l ++ last) (sym (marked_step pid m i n)))
    (λ (above : k ≤ i).
    let same : i ≡ k = omega arith in
    let set : bit_at (m + 2 ^ (k - 1)) (i - 1) ≡ 1 = ap (λ (x : ℕ). bit_at (m + 2 ^ (k - 1)) (x - 1)) same ∙ own_set m (k - 1) small in
    let clear : bit_at m (i - 1) ≡ 0 = ap (λ (x : ℕ). bit_at m (x - 1)) same ∙ high_clear m (k - 1) small in
    let power : 2 ^ k ≡ 2 ^ (k - 1) * 2 = ap (λ (x : ℕ). 2 ^ x) (omega arith) ∙ pow-suc 2 (k - 1) in
    let none = marked_none n pid (m + 2 ^ (k - 1)) (i + 1) k (omega arith) (omega (arith, power, small)) in
    let none_before = marked_none n pid m (i + 1) k (omega arith) (omega (arith, power, small)) in
    marked_set pid (m + 2 ^ (k - 1)) i n set ∙ ap (λ (l : List ℕ). (pid + i) % 65536 ∷ l) none ∙ ap (λ (x : ℕ). (pid + x) % 65536 ∷ []) same
    ∙ ap (λ (l : List ℕ). l ++ (pid + k) % 65536 ∷ []) (sym (marked_clear pid m i n (λ one. omega (arith, one, clear)) ∙ none_before)))
    (cases_lt i k)

-- ---- the words

word_more : (pid m d : ℕ) → 1 ≤ d → d ≤ 16 → m < 2 ^ (d - 1) → word_numbers pid (m + 2 ^ (d - 1)) ≡ word_numbers pid m ++ (pid + d) % 65536 ∷ []
unfolding word_numbers marked
word_more pid m d low high small = ap (λ (l : List ℕ). pid ∷ l) (marked_more 16 pid m 1 d (omega arith) low (omega arith) small)

word_alone : (pid : ℕ) → word_numbers pid 0 ≡ pid ∷ []
unfolding word_numbers marked
word_alone pid = ap (λ (l : List ℕ). pid ∷ l) (marked_none 16 pid 0 1 0 refl (omega arith))

numbers_word : (pid m : ℕ) (rest : List ℕ) → pid < 65536 → m < 65536 → numbers_of (to_be_bytes w16 pid ++ to_be_bytes w16 m ++ rest) ≡ word_numbers pid m ++ numbers_of rest
unfolding numbers_of
numbers_word pid m rest hp hm =
    ap (λ (x : ℕ). word_numbers x (from_be_bytes w16 (to_be_bytes w16 m)) ++ numbers_of rest) (from_be_bytes-to_be_bytes_2 pid hp)
    ∙ ap (λ (x : ℕ). word_numbers pid x ++ numbers_of rest) (from_be_bytes-to_be_bytes_2 m hm)

no_numbers : numbers_of [] ≡ []
unfolding numbers_of
no_numbers = refl

-- a word's own number and the distance to another give the other
distance_back : (pid n : ℕ) → pid < 65536 → n < 65536 → (pid + distance pid n) % 65536 ≡ n
distance_back pid n hp hn = omega arith

power_few : (m last : ℕ) → m < 2 ^ last → last ≤ 16 → m < 65536
power_few m last h few = let power : 2 ^ last ≤ 2 ^ 16 = pow-le-pow_right (omega arith) few in omega (arith, power)

either : (b : Bool) (xs ys : List ℕ) → (0 < length xs) × (length xs % 4 ≡ 0) → (0 < length ys) × (length ys % 4 ≡ 0)
    → (0 < length (if b then xs else ys)) × (length (if b then xs else ys) % 4 ≡ 0)
either true xs ys h k = h
either false xs ys h k = k

-- by whether the next number joins the word
next_number : (ns : List ℕ) (n pid m last d : ℕ) (b : Bool) → (nat_lt last d && nat_le d 16) ≡ b → (pid + d) % 65536 ≡ n → pid < 65536 → m < 2 ^ last → last ≤ 16
    → (m + 2 ^ (d - 1) < 2 ^ d → d ≤ 16 → numbers_of (words_from pid (m + 2 ^ (d - 1)) d ns) ≡ word_numbers pid (m + 2 ^ (d - 1)) ++ ns)
    → numbers_of (words_from n 0 0 ns) ≡ word_numbers n 0 ++ ns
    → numbers_of (if b then words_from pid (m + 2 ^ (d - 1)) d ns else to_be_bytes w16 pid ++ to_be_bytes w16 m ++ words_from n 0 0 ns) ≡ word_numbers pid m ++ n ∷ ns
next_number ns n pid m last d true test back hp hm few joined own =
    let parts = and_parts (ltb last d) (leb d 16) test in
    let low : last < d = ltb-true last d parts.0 in
    let high : d ≤ 16 = leb-true d 16 parts.1 in
    let power : 2 ^ last ≤ 2 ^ (d - 1) = pow-le-pow_right (omega arith) (omega arith) in
    let double : 2 ^ d ≡ 2 ^ (d - 1) * 2 = ap (λ (x : ℕ). 2 ^ x) (omega arith) ∙ pow-suc 2 (d - 1) in
    joined (omega (arith, power, double)) high ∙ ap (λ (l : List ℕ). l ++ ns) (word_more pid m d (omega arith) high (omega (arith, power)))
    ∙ append_assoc (word_numbers pid m) ((pid + d) % 65536 ∷ []) ns ∙ ap (λ (x : ℕ). word_numbers pid m ++ x ∷ ns) back
next_number ns n pid m last d false test back hp hm few joined own =
    numbers_word pid m (words_from n 0 0 ns) hp (power_few m last hm few) ∙ ap (λ (l : List ℕ). word_numbers pid m ++ l) (own ∙ ap (λ (l : List ℕ). l ++ ns) (word_alone n))

names_words : (ns : List ℕ) (pid m last : ℕ) → pid < 65536 → m < 2 ^ last → last ≤ 16 → AllByRecursion (λ n. n < 65536) ns → numbers_of (words_from pid m last ns) ≡ word_numbers pid m ++ ns
unfolding words_from
names_words [] pid m last hp hm few small = numbers_word pid m [] hp (power_few m last hm few) ∙ ap (λ (l : List ℕ). word_numbers pid m ++ l) no_numbers
names_words (n ∷ ns) pid m last hp hm few small =
    let d = distance pid n in
    next_number ns n pid m last d (nat_lt last d && nat_le d 16) refl (distance_back pid n hp small.0) hp hm few
    (λ h k. names_words ns pid (m + 2 ^ (d - 1)) d hp h k small.1) (names_words ns n 0 0 small.0 (omega arith) (omega arith) small.1)

some_bytes : (pid m last : ℕ) (ns : List ℕ) → (0 < length (words_from pid m last ns)) × (length (words_from pid m last ns) % 4 ≡ 0)
unfolding words_from
some_bytes pid m last [] = (omega arith, refl)
some_bytes pid m last (n ∷ ns) = either (nat_lt last (distance pid n) && nat_le (distance pid n) 16)
    (words_from pid (m + 2 ^ (distance pid n - 1)) (distance pid n) ns) (to_be_bytes w16 pid ++ to_be_bytes w16 m ++ words_from n 0 0 ns)
    (some_bytes pid (m + 2 ^ (distance pid n - 1)) (distance pid n) ns) (omega arith, omega (arith, (some_bytes n 0 0 ns).1))

-- the numbers that are packed, one or more, are read again
pub numbers_packed : (ns : List ℕ) → 0 < length ns → AllByRecursion (λ n. n < 65536) ns → nack_numbers (nack_words ns) ≡ Ok ns
numbers_packed [] h small = absurd (omega arith)
numbers_packed (n ∷ ns) h small =
    let words = words_from n 0 0 ns in
    let bytes = some_bytes n 0 0 ns in
    let some : (length words == 0) ≡ false = ne_eqb (length words) 0 (λ e. omega (arith, bytes.0)) in
    let whole : (length words % 4 == 0) ≡ true = eq-eqb (length words % 4) 0 bytes.1 in
    rw (some, whole) (ap Ok (names_words ns n 0 0 small.0 (omega arith) (omega arith) small.1 ∙ ap (λ (l : List ℕ). l ++ ns) (word_alone n)))
