-- What the run of a tick leaves, and that quiet ticks come nearer.
use Rattle.std.proofs.Common.{◌≡◌, ℕ, ◌+◌, ◌-◌, ◌<◌, ◌≤◌, min, ◌⊎◌, inl, inr, Bool, true, false, ◌&&◌, List, [], ◌∷◌, ◌++◌, length, drop, Option, Some, None, refl, subst, arith, eqb, leb}
use Rattle.std.proofs.lemmas.List.Sums.{sum_by-append}
use Rattle.std.proofs.lemmas.Bool.{cond_both, both_ways, lt-ltb, leb-true, eq-eqb, eqb-false, and_parts, and_from}
use Rattle.std.proofs.lemmas.Bool.Decides.{leb_tells}
use Rattle.rams_model.specs.declared.Held.{Held}
use Rattle.rams_model.specs.Packets.{wires, Follows}
use Rattle.rams_model.specs.Service.{is_before, waste, run, is_stop}
use Rattle.rams_model.specs.Laws.{IsByStop, ComesNearer, CatchesUp}
use Rattle.rams_model.proofs.Running.{wires-cons, after_before}
use Rattle.reckoning.specs.burst_plan.{gain, Burst, Tick, AreAtMost, sent, unsent, after, IsLawful, AreQuiet, pair, pairs_after, AreWithin, QuietTicksComeNearer, QuietBurstsKeepTheirJoinTime, QuietBurstsFallBackNoFurther}
use Rattle.reckoning.proofs.burst_plan.JoinTimes.{kept_join}

-- What a run leaves of what it may send, and of the packets: all is sent, or the next one doesn't fit.
record Leaves (left : ℕ) (packets r : List Held) : Type 0 where
  fits : wires r ≤ left
  splits : wires packets ≡ wires r + wires (drop (length r) packets)
  spare : (wires (drop (length r) packets) ≡ 0) ⊎ ((left < wires r + 1500) × (left < wires packets))

abbrev goes : Option ℕ → ℕ → ℕ → Held → Bool
goes stop n left h = eqb h.n n && is_before stop n && leb h.wire left

-- a number by the stop that isn't the stop is before it
before : (stop : Option ℕ) (n : ℕ) → IsByStop stop n → is_stop stop n ≡ false → is_before stop n ≡ true
before None n by e = refl
before (Some m) n by e = let other : n ≡ m → ⊥ = eqb-false n m e in lt-ltb n m (omega (arith, by, other))

at_end : (stop : Option ℕ) (n m : ℕ) → n ≡ m → is_stop stop n ≡ false → is_stop stop m ≡ false
at_end stop n m e = subst (λ k. is_stop stop k ≡ false) e

leaves : (stop : Option ℕ) (n left : ℕ) (packets : List Held) → Follows n packets → AreAtMost 1500 packets → IsByStop stop n → is_stop stop (n + length (run stop n left packets)) ≡ false → Leaves left packets (run stop n left packets)
unfolding run
leaves stop n left [] follows sizes by end = record { fits = omega arith; splits = omega arith; spare = inl refl }
leaves stop n left (h ∷ hs) follows sizes by end =
    cond_both (goes stop n left h) (h ∷ run stop (n + 1) (left - h.wire) hs) []
    (λ r. is_stop stop (n + length r) ≡ false → Leaves left (h ∷ hs) r)
    (λ t end.
    let tests = and_parts (eqb h.n n && is_before stop n) (leb h.wire left) t in
    let on = and_parts (eqb h.n n) (is_before stop n) tests.0 in
    one_more (run stop (n + 1) (left - h.wire) hs) (leb-true h.wire left tests.1)
    (leaves stop (n + 1) (left - h.wire) hs follows.1 sizes.1 (after_before stop n on.1) (at_end stop _ _ (omega arith) end)))
    (λ f end. none f (at_end stop (n + 0) n (omega arith) end))
    end
  where
    one_more : (r : List Held) → h.wire ≤ left → Leaves (left - h.wire) hs r → Leaves left (h ∷ hs) (h ∷ r)
    one_more r fits rest =
        let first = wires-cons h r in
        let all = wires-cons h hs in
        record {
          fits = omega (arith, rest.fits, first, fits);
          splits = omega (arith, rest.splits, first, all);
          spare = elim rest.spare [ inl z ↦ inl z | inr s ↦ inr (omega (arith, s.0, first, fits), omega (arith, s.1, all, fits)) ];
        }

    too_big : goes stop n left h ≡ false → is_stop stop n ≡ false → leb h.wire left ≡ true → ⊥
    too_big f e fits = both_ways (goes stop n left h) f (and_from (eqb h.n n && is_before stop n) (leb h.wire left) (and_from (eqb h.n n) (is_before stop n) (eq-eqb h.n n follows.0) (before stop n by e)) fits)

    none : goes stop n left h ≡ false → is_stop stop n ≡ false → Leaves left (h ∷ hs) []
    none f e = elim (leb_tells h.wire left) [
      | inl t ↦ absurd (too_big f e t.0)
      | inr t ↦
          let all = wires-cons h hs in
          record { fits = omega arith; splits = omega arith; spare = inr (omega (arith, t.1, sizes.0), omega (arith, t.1, all)) }
    ]

-- the step over plain numbers, where the run leaves less than a packet may have of a budget that doesn't suffice for all
nearer : (rate depth declared behind kept left sent rest all : ℕ) → declared + 1500 ≤ rate → kept ≤ depth → all ≤ behind + declared
    → all ≡ sent + rest → rate + kept < sent + 1500 → rate + kept < all → sent ≤ rate + kept
    → left ≤ rate + kept - sent → (0 < rest → min depth (rate + kept - sent) ≤ left)
    → ComesNearer (rate - waste depth - declared) (behind, kept) (rest, min depth left)
nearer rate depth declared behind kept left sent rest all suffices keeps joins splits spare more fits within leaves =
    let back = leaves (omega arith) in inr (omega arith, omega arith, omega arith)

pub quiet_tick : QuietTicksComeNearer
quiet_tick declared b t lawful q =
    let sum = sum_by-append (λ (h : Held). h.wire) b.packets t.joined in
    let r = leaves t.stop b.next (b.rate + b.kept) (b.packets ++ t.joined) q.follows q.sizes q.stops q.is_open in
    elim r.spare [
      | inl z ↦ inl z
      | inr s ↦
          nearer b.rate b.depth declared (wires b.packets) b.kept t.left (wires (sent b t)) (wires (unsent b t)) (wires (b.packets ++ t.joined)) lawful.suffices lawful.keeps (omega (arith, sum, q.joins)) r.splits s.0 s.1 r.fits q.within q.leaves
    ]

still_lawful : (declared : ℕ) (b : Burst) (t : Tick) → IsLawful declared b → IsLawful declared (after b t)
still_lawful declared b t lawful = record { suffices = lawful.suffices; keeps = omega arith }

catches_up : (declared : ℕ) (b : Burst) (ts : List Tick) → IsLawful declared b → AreQuiet declared b ts → CatchesUp (gain b.rate declared b.depth) (pair b ∷ pairs_after b ts)
catches_up declared b [] lawful quiet = tt
catches_up declared b (t ∷ ts) lawful quiet =
    (quiet_tick declared b t lawful quiet.0, catches_up declared (after b t) ts (still_lawful declared b t lawful) quiet.1)

pub quiet_bursts : QuietBurstsKeepTheirJoinTime
quiet_bursts declared b ts lawful quiet =
    kept_join (wires b.packets) b.kept b.rate declared b.depth (pairs_after b ts) lawful.suffices (catches_up declared b ts lawful quiet)

within_most : (declared most : ℕ) (b : Burst) (ts : List Tick) → wires b.packets + declared ≤ most → IsLawful declared b → AreQuiet declared b ts → AreWithin most b ts
within_most declared most b [] le lawful quiet = tt
within_most declared most b (t ∷ ts) le lawful quiet =
    let sum = sum_by-append (λ (h : Held). h.wire) b.packets t.joined in (
      omega (arith, sum, quiet.0.joins, le),
      within_most declared most (after b t) ts (no_more (quiet_tick declared b t lawful quiet.0)) (still_lawful declared b t lawful) quiet.1,
    )
  where
    no_more : ComesNearer (gain b.rate declared b.depth) (pair b) (pair (after b t)) → wires (unsent b t) + declared ≤ most
    no_more step = elim step [ inl z ↦ omega (arith, z, le) | inr n ↦ omega (arith, n.0, le) ]

pub no_further : QuietBurstsFallBackNoFurther
no_further declared b ts lawful quiet = within_most declared (wires b.packets + declared) b ts (omega arith) lawful quiet
