-- The run of a burst in a tick is the longest that may be sent.
use Rattle.std.proofs.Common.{◌≡◌, ℕ, zero, suc, ◌+◌, ◌-◌, ◌≤◌, Bool, true, false, ◌&&◌, List, [], ◌∷◌, length, take, Option, Some, None, refl, ap, subst, arith, eqb, leb}
use Rattle.std.proofs.lemmas.List.Sums.{sum_by-cons}
use Rattle.std.proofs.lemmas.Bool.{cond_both, both_ways, ltb-true, lt-ltb, leb-true, le-leb, eq-eqb, and_parts, and_from}
use Rattle.rams_model.specs.declared.held.Held.{Held}
use Rattle.rams_model.specs.Packets.{wires, Follows}
use Rattle.rams_model.specs.Service.{is_before, run}
use Rattle.rams_model.specs.Laws.{IsByStop, MayBeSent}

pub wires-cons : (h : Held) (hs : List Held) → wires (h ∷ hs) ≡ h.wire + wires hs
wires-cons h hs = sum_by-cons (λ (x : Held). x.wire) h hs

-- a number is before a stop by which an end after it is
before_from : (stop : Option ℕ) (n count : ℕ) → IsByStop stop (n + suc count) → is_before stop n ≡ true
before_from None n count by = refl
before_from (Some m) n count by = lt-ltb n m (omega (arith, by))

pub after_before : (stop : Option ℕ) (n : ℕ) → is_before stop n ≡ true → IsByStop stop (n + 1)
after_before None n e = tt
after_before (Some m) n e = let lt = ltb-true n m e in omega (arith, lt)

same_end : (stop : Option ℕ) (n m : ℕ) → n ≡ m → IsByStop stop n → IsByStop stop m
same_end stop n m e by = subst (IsByStop stop) e by

abbrev goes : Option ℕ → ℕ → ℕ → Held → Bool
goes stop n left h = eqb h.n n && is_before stop n && leb h.wire left

abbrev IsLongest : Option ℕ → ℕ → ℕ → List Held → List Held → Type 0
IsLongest stop n left packets r =
    (r ≡ take (length r) packets) × MayBeSent stop n left packets (length r) × ((count : ℕ) → MayBeSent stop n left packets count → count ≤ length r)

-- nothing is sent
nothing : (stop : Option ℕ) (n left : ℕ) (packets : List Held) → IsByStop stop n → MayBeSent stop n left packets 0
nothing stop n left packets by = record { there = omega arith; stops = same_end stop n (n + 0) (omega arith) by; fits = omega arith }

-- the first packet may be sent where more than none may
first_goes : (stop : Option ℕ) (n left : ℕ) (h : Held) (hs : List Held) (count : ℕ) → h.n ≡ n → MayBeSent stop n left (h ∷ hs) (suc count) → goes stop n left h ≡ true
first_goes stop n left h hs count e m =
    let sum = wires-cons h (take count hs) in
    and_from (eqb h.n n && is_before stop n) (leb h.wire left) (and_from (eqb h.n n) (is_before stop n) (eq-eqb h.n n e) (before_from stop n count m.stops))
    (le-leb h.wire left (omega (arith, m.fits, sum)))

pub longest_run : (stop : Option ℕ) (n left : ℕ) (packets : List Held) → Follows n packets → IsByStop stop n → IsLongest stop n left packets (run stop n left packets)
unfolding run
longest_run stop n left [] follows by = (refl, nothing stop n left [] by, λ count m. m.there)
longest_run stop n left (h ∷ hs) follows by =
    cond_both (goes stop n left h) (h ∷ run stop (n + 1) (left - h.wire) hs) [] (IsLongest stop n left (h ∷ hs))
    (λ t.
    let tests = and_parts (eqb h.n n && is_before stop n) (leb h.wire left) t in
    let before = and_parts (eqb h.n n) (is_before stop n) tests.0 in
    let rest = longest_run stop (n + 1) (left - h.wire) hs follows.1 (after_before stop n before.1) in
    taken (run stop (n + 1) (left - h.wire) hs) (leb-true h.wire left tests.1) rest)
    (λ f. (refl, nothing stop n left (h ∷ hs) by, none_more f))
  where
    none_more : goes stop n left h ≡ false → (count : ℕ) → MayBeSent stop n left (h ∷ hs) count → count ≤ 0
    none_more f zero m = omega arith
    none_more f (suc count) m = absurd (both_ways (goes stop n left h) f (first_goes stop n left h hs count follows.0 m))

    within : (r : List Held) → h.wire ≤ left → IsLongest stop (n + 1) (left - h.wire) hs r → (count : ℕ) → MayBeSent stop n left (h ∷ hs) count → count ≤ suc (length r)
    within r fits rest zero m = omega arith
    within r fits rest (suc count) m =
        let sum = wires-cons h (take count hs) in
        let le = rest.2 count (record { there = omega (arith, m.there); stops = same_end stop (n + suc count) (n + 1 + count) (omega arith) m.stops; fits = omega (arith, m.fits, sum) }) in
        omega (arith, le)

    taken : (r : List Held) → h.wire ≤ left → IsLongest stop (n + 1) (left - h.wire) hs r → IsLongest stop n left (h ∷ hs) (h ∷ r)
    taken r fits rest =
        let sum = wires-cons h (take (length r) hs) in (
          ap (λ (l : List Held). h ∷ l) rest.0,
          record {
            there = omega (arith, rest.1.there);
            stops = same_end stop (n + 1 + length r) (n + suc (length r)) (omega arith) rest.1.stops;
            fits = omega (arith, rest.1.fits, sum, fits);
          },
          within r fits rest,
        )
