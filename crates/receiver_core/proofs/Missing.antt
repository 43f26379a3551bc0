-- The least of the missing numbers, found one after another.
use Rattle.std.proofs.Common.{◌≡◌, ◌≢◌, ℕ, zero, suc, ◌+◌, ◌-◌, ◌%◌, ◌<◌, ◌≤◌, Bool, true, false, List, [], ◌∷◌, ◌++◌, length, map, take, filter, ap, ap₂, sym, ◌∙◌, arith, length-append, length-take, take_all, append-nil}
use Rattle.std.specs.List.{range_with_len}
use Rattle.std.proofs.lemmas.Bool.{cond-true, cond-false}
use Rattle.std.proofs.lemmas.List.{take-append-le, length-map, map-append, nil_from_length}
use Rattle.std.proofs.lemmas.List.Elements.{filter-append}

-- the 16 bits that a NACK has of a number
abbrev low : ℕ → ℕ
low n = n % 65536

range_splits : (a m k : ℕ) → range_with_len a (m + k) ≡ range_with_len a m ++ range_with_len (a + m) k
range_splits a zero k = ap₂ range_with_len (omega arith) (omega arith)
range_splits a (suc m) k =
    let sum : suc m + k ≡ suc (m + k) = omega arith in
    let place : a + 1 + m ≡ a + suc m = omega arith in
    ap (range_with_len a) sum ∙ ap (λ (ns : List ℕ). a ∷ ns) (range_splits (a + 1) m k ∙ ap (λ (b : ℕ). range_with_len (a + 1) m ++ range_with_len b k) place)

module _ (test : ℕ → Bool) (most a : ℕ) where
  -- the numbers among the first m from a on that pass
  abbrev pub passing : ℕ → List ℕ
  passing m = filter test (range_with_len a m)

  abbrev pub least_passing : ℕ → List ℕ
  least_passing m = take most (passing m)

  -- none was looked at
  pub none_yet : [] ≡ map low (least_passing (a - a))
  none_yet =
      let none : a - a ≡ 0 = omega arith in
      let few : length (passing (a - a)) ≡ 0 = ap (λ (k : ℕ). length (passing k)) none in
      sym (nil_from_length (map low (least_passing (a - a))) (omega (arith, few, length-map (least_passing (a - a)) low, length-take most (passing (a - a)))))

  passing_splits : (m k : ℕ) → passing (m + k) ≡ passing m ++ filter test (range_with_len (a + m) k)
  passing_splits m k = ap (filter test) (range_splits a m k) ∙ filter-append test (range_with_len a m) (range_with_len (a + m) k)

  -- enough were found
  pub full : (m n : ℕ) → m ≤ n → length (least_passing m) ≡ most → least_passing n ≡ least_passing m
  full m n le found =
      let rest = filter test (range_with_len (a + m) (n - m)) in
      let enough : most ≤ length (passing m) = omega (arith, found, length-take most (passing m)) in
      ap least_passing (let sum : n ≡ m + (n - m) = omega (arith, le) in sum) ∙ ap (take most) (passing_splits m (n - m)) ∙ take-append-le most (passing m) rest enough

  -- one more number is looked at
  pub passes_not : (m : ℕ) → test (a + m) ≡ false → least_passing (m + 1) ≡ least_passing m
  passes_not m e = ap (take most) (passing_splits m 1 ∙ ap (λ (ns : List ℕ). passing m ++ ns) (cond-false (test (a + m)) ((a + m) ∷ []) [] e) ∙ append-nil (passing m))

  pub passes : (m : ℕ) → test (a + m) ≡ true → length (least_passing m) < most → least_passing (m + 1) ≡ least_passing m ++ (a + m) ∷ []
  passes m e few =
      let one = (a + m) ∷ [] in
      let short : length (passing m) < most = omega (arith, few, length-take most (passing m)) in
      let fits : length (passing m ++ one) ≤ most = omega (arith, short, length-append (passing m) one) in
      ap (take most) (passing_splits m 1 ∙ ap (λ (ns : List ℕ). passing m ++ ns) (cond-true (test (a + m)) one [] e)) ∙ take_all most (passing m ++ one) fits
      ∙ ap (λ (ns : List ℕ). ns ++ one) (sym (take_all most (passing m) (omega (arith, short))))

  -- what was found so far, by the low bits
  module _ (numbers : List ℕ) (n : ℕ) (above : a ≤ n) (found : numbers ≡ map low (least_passing (n - a))) where
    count : length numbers ≡ length (least_passing (n - a))
    count = ap length found ∙ length-map (least_passing (n - a)) low

    pub at_most : length numbers ≤ most
    at_most = omega (arith, count, length-take most (passing (n - a)))

    pub looked_at_free : test n ≡ true → length numbers ≢ most → numbers ++ low n ∷ [] ≡ map low (least_passing (n + 1 - a))
    looked_at_free free more =
        let m = n - a in
        let here : a + m ≡ n = omega (arith, above) in
        let next : m + 1 ≡ n + 1 - a = omega (arith, above) in
        let few : length (least_passing m) < most = omega (arith, more, at_most, count) in
        let one = passes m (ap test here ∙ free) few in
        ap₂ (λ (ns : List ℕ) (k : ℕ). ns ++ low k ∷ []) found (sym here) ∙ sym (map-append low (least_passing m) ((a + m) ∷ []))
        ∙ ap (map low) (sym one) ∙ ap (λ (k : ℕ). map low (least_passing k)) next

    pub looked_at_other : test n ≡ false → numbers ≡ map low (least_passing (n + 1 - a))
    looked_at_other taken =
        let m = n - a in
        let here : a + m ≡ n = omega (arith, above) in
        let next : m + 1 ≡ n + 1 - a = omega (arith, above) in
        found ∙ ap (map low) (sym (passes_not m (ap test here ∙ taken))) ∙ ap (λ (k : ℕ). map low (least_passing k)) next

    pub enough : (end : ℕ) → n - a ≤ end - a → length numbers ≡ most → numbers ≡ map low (least_passing (end - a))
    enough end within all = found ∙ ap (map low) (sym (full (n - a) (end - a) within (sym count ∙ all)))
