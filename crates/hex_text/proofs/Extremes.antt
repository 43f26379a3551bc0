-- The extremes of bytes tell whether all of these are digits.
use Rattle.std.proofs.Common.{◌≡◌, ℕ, ◌*◌, ◌+◌, ◌%◌, ◌≤◌, Bool, true, false, ◌&&◌, cond, ltb, nat_eq, nat_le, List, [], ◌∷◌, length, map, take, drop, replicate, Fits, w8, refl, sym, ap, ◌∙◌, suc, zero, arith, ltb-true, ltb-false}
use Rattle.std.proofs.lemmas.Bool.Decides.{nat_tests}
use Rattle.std.proofs.lemmas.Simd.{mask_l-mod}
use Rattle.std.specs.List.{list_all}
use lib.Lanes.{Each1, zip2, sel_l, mask_l, top}
use Rattle.hex_text.specs.{is_lower_digit}
use Rattle.hex_text.proofs.Digits.{below_mask, less, is_lower-extremes}

-- the less of each two, and the greater
abbrev pub lesser : List ℕ → List ℕ → List ℕ
lesser xs ys = sel_l (map (top 7) (zip2 below_mask xs ys)) xs ys

abbrev pub greater : List ℕ → List ℕ → List ℕ
greater xs ys = sel_l (map (top 7) (zip2 below_mask xs ys)) ys xs

pub length-lesser : (xs ys : List ℕ) → length xs ≡ length ys → length (lesser xs ys) ≡ length xs
length-lesser [] ys e = refl
length-lesser (x ∷ xs) [] e = absurd (omega arith)
length-lesser (x ∷ xs) (y ∷ ys) e = ap suc (length-lesser xs ys (omega arith))

pub length-greater : (xs ys : List ℕ) → length xs ≡ length ys → length (greater xs ys) ≡ length xs
length-greater [] ys e = refl
length-greater (x ∷ xs) [] e = absurd (omega arith)
length-greater (x ∷ xs) (y ∷ ys) e = ap suc (length-greater xs ys (omega arith))

pub length-less : (n : ℕ) (xs : List ℕ) → length xs ≡ n → length (zip2 less xs (replicate n 97)) ≡ n
length-less zero [] e = refl
length-less zero (x ∷ xs) e = absurd (omega arith)
length-less (suc n) [] e = absurd (omega arith)
length-less (suc n) (x ∷ xs) e = ap suc (length-less n xs (omega arith))

-- ---- tests of all, taken together

in_pairs : (a b A B : Bool) → ((a && b) && (A && B)) ≡ ((a && A) && (b && B))
in_pairs true true A B = refl
in_pairs true false true B = refl
in_pairs true false false B = refl
in_pairs false b A B = refl

in_threes : (a b c A B C : Bool) → ((a && A) && ((b && B) && (c && C))) ≡ ((a && (b && c)) && (A && (B && C)))
in_threes true true true A B C = refl
in_threes true true false A true C = in_threes_none A
  where
    in_threes_none : (A : Bool) → (A && false) ≡ false
    in_threes_none true = refl
    in_threes_none false = refl
in_threes true true false true false C = refl
in_threes true true false false false C = refl
in_threes true false c true B C = refl
in_threes true false c false B C = refl
in_threes false b c A B C = refl

one_least : (k x y : ℕ) → nat_le k (cond (top 7 (below_mask x y)) x y) ≡ (nat_le k x && nat_le k y)
one_least k x y = go (ltb x y) refl
  where
    go : (t : Bool) → ltb x y ≡ t → nat_le k (cond (top 7 (cond t 255 0)) x y) ≡ (nat_le k x && nat_le k y)
    go true e = let lt = ltb-true x y e in grind (arith, nat_tests, lt)
    go false e = let le = ltb-false x y e in grind (arith, nat_tests, le)

one_most : (k x y : ℕ) → nat_le (cond (top 7 (below_mask x y)) y x) k ≡ (nat_le x k && nat_le y k)
one_most k x y = go (ltb x y) refl
  where
    go : (t : Bool) → ltb x y ≡ t → nat_le (cond (top 7 (cond t 255 0)) y x) k ≡ (nat_le x k && nat_le y k)
    go true e = let lt = ltb-true x y e in grind (arith, nat_tests, lt)
    go false e = let le = ltb-false x y e in grind (arith, nat_tests, le)

least_all : (k : ℕ) (xs ys : List ℕ) → length xs ≡ length ys → list_all (λ b. nat_le k b) (lesser xs ys) ≡ (list_all (λ b. nat_le k b) xs && list_all (λ b. nat_le k b) ys)
least_all k [] [] e = refl
least_all k [] (y ∷ ys) e = absurd (omega arith)
least_all k (x ∷ xs) [] e = absurd (omega arith)
least_all k (x ∷ xs) (y ∷ ys) e =
    rw (one_least k x y, least_all k xs ys (omega arith)) (in_pairs (nat_le k x) (nat_le k y) _ _)

most_all : (k : ℕ) (xs ys : List ℕ) → length xs ≡ length ys → list_all (λ b. nat_le b k) (greater xs ys) ≡ (list_all (λ b. nat_le b k) xs && list_all (λ b. nat_le b k) ys)
most_all k [] [] e = refl
most_all k [] (y ∷ ys) e = absurd (omega arith)
most_all k (x ∷ xs) [] e = absurd (omega arith)
most_all k (x ∷ xs) (y ∷ ys) e =
    rw (one_most k x y, most_all k xs ys (omega arith)) (in_pairs (nat_le x k) (nat_le y k) _ _)

-- ---- bytes and their extremes

abbrev within : List ℕ → List ℕ → List ℕ → Bool
within least most farthest = list_all (λ b. nat_le 48 b) least && (list_all (λ b. nat_le b 102) most && list_all (λ b. nat_le b 216) farthest)

pub digits_within : (n : ℕ) (bytes : List ℕ) → length bytes ≡ n → Each1 (Fits w8) bytes → within bytes bytes (zip2 less bytes (replicate n 97)) ≡ list_all is_lower_digit bytes
digits_within zero [] long fits = refl
digits_within zero (b ∷ bytes) long fits = absurd (omega arith)
digits_within (suc n) [] long fits = absurd (omega arith)
digits_within (suc n) (b ∷ bytes) long fits =
    in_threes (nat_le 48 b) (nat_le b 102) (nat_le (less b 97) 216) _ _ _
    ∙ rw (is_lower-extremes b fits.0.fits, digits_within n bytes (omega arith) fits.1) refl

pub more_within : (least most farthest bytes : List ℕ) → length least ≡ 32 → length most ≡ 32 → length farthest ≡ 32 → length bytes ≡ 32 → Each1 (Fits w8) bytes
    → within (lesser least bytes) (greater most bytes) (greater farthest (zip2 less bytes (replicate 32 97))) ≡ (within least most farthest && list_all is_lower_digit bytes)
more_within least most farthest bytes l m f b fits =
    let distances = zip2 less bytes (replicate 32 97) in
    rw (least_all 48 least bytes (l ∙ sym b), most_all 102 most bytes (m ∙ sym b), most_all 216 farthest distances (f ∙ sym (length-less 32 bytes b)))
    (in_threes (list_all (λ b. nat_le 48 b) least) (list_all (λ b. nat_le b 102) most) (list_all (λ b. nat_le b 216) farthest) _ _ _
    ∙ ap (λ t. within least most farthest && t) (digits_within 32 bytes b fits))

-- ---- no lane of a comparison is set

none_less : (n k : ℕ) (xs : List ℕ) → length xs ≡ n → (length (map (top 7) (zip2 below_mask xs (replicate n k))) ≡ n) × (nat_eq (mask_l (map (top 7) (zip2 below_mask xs (replicate n k)))) 0 ≡ list_all (λ b. nat_le k b) xs)
none_less zero k [] e = (refl, refl)
none_less zero k (x ∷ xs) e = absurd (omega arith)
none_less (suc n) k [] e = absurd (omega arith)
none_less (suc n) k (x ∷ xs) e =
    let rest = none_less n k xs (omega arith) in
    (ap suc rest.0, go (ltb x k) refl _ _ rest.1)
  where
    go : (t : Bool) → ltb x k ≡ t → (m : ℕ) (all : Bool) → nat_eq m 0 ≡ all → nat_eq (cond (top 7 (cond t 255 0)) 1 0 + 2 * m) 0 ≡ (nat_le k x && all)
    go true lt m all h = let less = ltb-true x k lt in grind (arith, nat_tests, less)
    go false ge m all h = let more = ltb-false x k ge in grind (arith, nat_tests, more, h)

none_more : (n k : ℕ) (xs : List ℕ) → length xs ≡ n → (length (map (top 7) (zip2 below_mask (replicate n k) xs)) ≡ n) × (nat_eq (mask_l (map (top 7) (zip2 below_mask (replicate n k) xs))) 0 ≡ list_all (λ b. nat_le b k) xs)
none_more zero k [] e = (refl, refl)
none_more zero k (x ∷ xs) e = absurd (omega arith)
none_more (suc n) k [] e = absurd (omega arith)
none_more (suc n) k (x ∷ xs) e =
    let rest = none_more n k xs (omega arith) in
    (ap suc rest.0, go (ltb k x) refl _ _ rest.1)
  where
    go : (t : Bool) → ltb k x ≡ t → (m : ℕ) (all : Bool) → nat_eq m 0 ≡ all → nat_eq (cond (top 7 (cond t 255 0)) 1 0 + 2 * m) 0 ≡ (nat_le x k && all)
    go true lt m all h = let less = ltb-true k x lt in grind (arith, nat_tests, less)
    go false ge m all h = let more = ltb-false k x ge in grind (arith, nat_tests, more, h)

pub none_outside : (least most farthest : List ℕ) → length least ≡ 32 → length most ≡ 32 → length farthest ≡ 32
    → (nat_eq (mask_l (map (top 7) (zip2 below_mask least (replicate 32 48))) % 18446744073709551616) 0
    && (nat_eq (mask_l (map (top 7) (zip2 below_mask (replicate 32 102) most)) % 18446744073709551616) 0
    && nat_eq (mask_l (map (top 7) (zip2 below_mask (replicate 32 216) farthest)) % 18446744073709551616) 0)) ≡ within least most farthest
none_outside least most farthest l m f =
    let a = none_less 32 48 least l in
    let b = none_more 32 102 most m in
    let c = none_more 32 216 farthest f in
    rw (
      mask_l-mod (map (top 7) (zip2 below_mask least (replicate 32 48))) 64 (omega (arith, a.0)),
      mask_l-mod (map (top 7) (zip2 below_mask (replicate 32 102) most)) 64 (omega (arith, b.0)),
      mask_l-mod (map (top 7) (zip2 below_mask (replicate 32 216) farthest)) 64 (omega (arith, c.0)),
      a.1,
      b.1,
      c.1,
    ) refl

-- ---- a front and an end that meet are all

both_pass : (t a b all : Bool) → (a && b) ≡ all → ((t && a) && (t && b)) ≡ (t && all)
both_pass true a b all e = e
both_pass false a b all e = refl

front_passes : (t a b all : Bool) → (a && b) ≡ all → ((t && a) && b) ≡ (t && all)
front_passes true a b all e = e
front_passes false a b all e = refl

pub all_covered : (test : ℕ → Bool) (xs : List ℕ) (a b : ℕ) → b ≤ a → (list_all test (take a xs) && list_all test (drop b xs)) ≡ list_all test xs
all_covered test [] zero zero le = refl
all_covered test [] (suc a) zero le = refl
all_covered test [] zero (suc b) le = absurd (omega arith)
all_covered test [] (suc a) (suc b) le = refl
all_covered test (x ∷ xs) zero zero le = refl
all_covered test (x ∷ xs) zero (suc b) le = absurd (omega arith)
all_covered test (x ∷ xs) (suc a) zero le = both_pass (test x) _ _ _ (all_covered test xs a 0 (omega arith))
all_covered test (x ∷ xs) (suc a) (suc b) le = front_passes (test x) _ _ _ (all_covered test xs a b (omega arith))

-- a front, and n items more
list_all-part : (test : ℕ → Bool) (xs : List ℕ) (a n : ℕ) → list_all test (take (a + n) xs) ≡ (list_all test (take a xs) && list_all test (take n (drop a xs)))
list_all-part test xs zero n = let e : 0 + n ≡ n = omega arith in rw e refl
list_all-part test [] (suc a) zero = let e : suc a + 0 ≡ suc a = omega arith in rw e refl
list_all-part test [] (suc a) (suc n) = let e : suc a + suc n ≡ suc (a + suc n) = omega arith in rw e refl
list_all-part test (x ∷ xs) (suc a) n =
    let e : suc a + n ≡ suc (a + n) = omega arith in
    rw e (sym (front_passes (test x) _ _ _ (sym (list_all-part test xs a n))))

swapped : (a b c : Bool) → ((a && b) && c) ≡ ((a && c) && b)
swapped true true true = refl
swapped true true false = refl
swapped true false true = refl
swapped true false false = refl
swapped false b c = refl

-- a block more
pub block_more : (text block end : List ℕ) (k n : ℕ) (before after : Bool) → n ≡ 32 → block ≡ take n (drop (32 * k) text)
    → before ≡ (list_all is_lower_digit (take (32 * k) text) && list_all is_lower_digit end) → after ≡ (before && list_all is_lower_digit block)
    → after ≡ (list_all is_lower_digit (take (32 * (k + 1)) text) && list_all is_lower_digit end)
block_more text block end k n before after is_32 is inv more =
    let next : 32 * (k + 1) ≡ 32 * k + 32 = omega arith in
    let part = list_all-part is_lower_digit text (32 * k) 32 in
    rw (more, inv, is, is_32, next, part) (swapped (list_all is_lower_digit (take (32 * k) text)) (list_all is_lower_digit end) _)
