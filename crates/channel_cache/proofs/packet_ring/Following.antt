-- Packets whose numbers follow one another, and the places where they stand.
use Rattle.std.proofs.Common.{◌≡◌, ℕ, zero, suc, ◌+◌, ◌-◌, ◌^◌, ◌<◌, ◌≤◌, ◌↔◌, List, [], ◌∷◌, ◌++◌, length, slice_get, Option, Some, None, IsSome, IfSome, is_some, refl, ap, sym, ◌∙◌, subst, arith, eqb, leb}
use Rattle.std.specs.Option.{option_copied, MatchOption}
use Rattle.std.specs.Borrow.{Bor}
use Rattle.std.proofs.lemmas.Bool.{cond_both, eqb-true, eqb-false, le-leb, eq-eqb, ne_eqb, cond-true, cond-false}
use Rattle.std.proofs.lemmas.List.{length-drop}
use Rattle.rams_model.specs.declared.Held.{Held}
use Rattle.rams_model.specs.Packets.{lo, hi, last_of, from_number, Follows}
use Rattle.rams_model.proofs.Holding.{later_ones, all_from, one_behind, ends_at}
use Rattle.rams_model.proofs.Rising.{hi_of_end, not_from}
use Rattle.rams_model.proofs.HeldEnds.{hi-last_of}
use Rattle.channel_cache.specs.packet_ring.{pushed, empty_ring, packet_of, IsRing}
use Rattle.channel_cache.specs.packet_ring.Seen.{Seen}

-- ---- the rings
ring_of : (capacity : ℕ) (hs : List Held) → 1 ≤ capacity → length hs ≤ capacity → Follows (lo hs) hs → hi hs ≤ 2 ^ 62 → IsRing (record { capacity = capacity; held = hs })
ring_of capacity hs room fits follows small = record { room = room; fits = fits; follows = follows; ends = ends_at hs follows; small = small }

pub empty_is_ring : (capacity : ℕ) → 1 ≤ capacity → IsRing (empty_ring capacity)
unfolding hi
empty_is_ring capacity room = ring_of capacity [] room (omega arith) tt (omega arith)

alone : (capacity : ℕ) (h : Held) → 1 ≤ capacity → h.n < 2 ^ 62 → IsRing (record { capacity = capacity; held = h ∷ [] })
unfolding hi
alone capacity h room small = ring_of capacity (h ∷ []) room (omega arith) (refl, tt) (omega arith)

behind_all : (hs : List Held) (h : Held) → Follows (lo hs) hs → h.n ≡ hi hs → Follows (lo (hs ++ h ∷ [])) (hs ++ h ∷ [])
unfolding hi
behind_all [] h follows next = (refl, tt)
behind_all (k ∷ hs) h follows next = one_behind k.n (k ∷ hs) h follows (next ∙ ends_at (k ∷ hs) follows)

pub pushed_is_ring : (v : Seen) (h : Held) → IsRing v → h.n < 2 ^ 62 → IsRing (pushed v h)
unfolding hi
pushed_is_ring v h was small =
    let more = v.held ++ h ∷ [] in
    let end : hi more ≡ h.n + 1 = hi_of_end v.held h [] in
    cond_both (eqb h.n (hi v.held)) (last_of v.capacity more) (h ∷ []) (λ l. IsRing (record { capacity = v.capacity; held = l }))
    (λ t. ring_of v.capacity (last_of v.capacity more) was.room (omega (arith, length-drop (length more - v.capacity) more))
    (later_ones (lo more) (length more - v.capacity) more (behind_all v.held h was.follows (eqb-true h.n (hi v.held) t)))
    (omega (arith, hi-last_of v.capacity more was.room, end)))
    (λ f. alone v.capacity h was.room small)

-- ---- a packet by its number
before_all : (n m : ℕ) (hs : List Held) → Follows m hs → n < m → packet_of n hs ≡ None
before_all n m [] f below = refl
before_all n m (h ∷ hs) f below = cond-false (eqb h.n n) (Some h) (packet_of n hs) (ne_eqb h.n n (λ e. omega (arith, f.0, e))) ∙ before_all n (m + 1) hs f.1 (omega arith)

at_place : (n m k : ℕ) (hs : List Held) → Follows m hs → n ≡ m + k → slice_get hs k ≡ packet_of n hs
at_place n m k [] f at = refl
at_place n m zero (h ∷ hs) f at = sym (cond-true (eqb h.n n) (Some h) (packet_of n hs) (eq-eqb h.n n (omega (arith, f.0, at))))
at_place n m (suc k) (h ∷ hs) f at =
    at_place n (m + 1) k hs f.1 (omega (arith, at)) ∙ sym (cond-false (eqb h.n n) (Some h) (packet_of n hs) (ne_eqb h.n n (λ e. omega (arith, f.0, at, e))))

-- the packet of a number stands as many places behind the first as the number is above the first's
pub found_at : (v : Seen) (n : ℕ) → IsRing v → lo v.held ≤ n → slice_get v.held (n - lo v.held) ≡ packet_of n v.held
found_at v n was above = at_place n (lo v.held) (n - lo v.held) v.held was.follows (omega (arith, above))

pub none_below : (v : Seen) (n : ℕ) → IsRing v → n < lo v.held → packet_of n v.held ≡ None
none_below v n was below = before_all n (lo v.held) v.held was.follows below

pub is_there : (hs : List Held) (k : ℕ) → IsSome (slice_get hs k) ↔ (k < length hs)
is_there [] k = (λ some. cc, λ within. absurd (omega arith))
is_there (h ∷ hs) zero = (λ some. omega arith, λ within. refl)
is_there (h ∷ hs) (suc k) = let rest = is_there hs k in (λ some. let within = rest.0 some in omega (arith, within), λ within. rest.1 (omega (arith, within)))

pub has_its_number : (n : ℕ) (hs : List Held) → IfSome (packet_of n hs) (λ h. h.n ≡ n)
has_its_number n [] = tt
has_its_number n (h ∷ hs) = cond_both (eqb h.n n) (Some h) (packet_of n hs) (λ found. IfSome found (λ k. k.n ≡ n)) (λ t. eqb-true h.n n t) (λ f. has_its_number n hs)

-- ---- the packets from a number on
one_by_one : (n m : ℕ) (hs : List Held) → Follows m hs → m ≤ n → MatchOption (packet_of n hs) (from_number n hs ≡ []) (λ h. from_number n hs ≡ h ∷ from_number (n + 1) hs)
one_by_one n m [] f from = refl
one_by_one n m (h ∷ hs) f from =
    cond_both (eqb h.n n) (Some h) (packet_of n hs) (λ found. MatchOption found (from_number n (h ∷ hs) ≡ []) (λ k. from_number n (h ∷ hs) ≡ k ∷ from_number (n + 1) (h ∷ hs)))
    (λ t. let here : h.n ≡ n = eqb-true h.n n t in
    cond-true (leb n h.n) (h ∷ from_number n hs) (from_number n hs) (le-leb n h.n (omega arith))
    ∙ ap (λ (l : List Held). h ∷ l) (all_from n (m + 1) hs f.1 (omega arith) ∙ (sym (all_from (n + 1) (m + 1) hs f.1 (omega (arith, f.0))) ∙ sym (not_from (n + 1) h hs (omega arith)))))
    (λ e. let below : h.n < n = omega (arith, f.0, eqb-false h.n n e) in
    subst (λ (l : List Held). MatchOption (packet_of n hs) (l ≡ []) (λ k. l ≡ k ∷ from_number (n + 1) (h ∷ hs))) (sym (not_from n h hs below))
    (subst (λ (l : List Held). MatchOption (packet_of n hs) (from_number n hs ≡ []) (λ k. from_number n hs ≡ k ∷ l)) (sym (not_from (n + 1) h hs (omega arith)))
    (one_by_one n (m + 1) hs f.1 (omega (arith, f.0)))))

pub stand_in_order : (held : List Held) (n : ℕ) → Follows (lo held) held → lo held ≤ n → MatchOption (packet_of n held) (from_number n held ≡ []) (λ h. from_number n held ≡ h ∷ from_number (n + 1) held)
stand_in_order held n f from = one_by_one n (lo held) held f from

-- ---- what is lent
pub lent_is_there : (r : Option (Bor Held)) (hs : List Held) (k : ℕ) → option_copied r ≡ slice_get hs k → IsSome r ↔ (k < length hs)
lent_is_there None hs k same = let there = is_there hs k in (λ some. cc, λ within. ap is_some same ∙ there.1 within)
lent_is_there (Some h) hs k same = let there = is_there hs k in (λ some. there.0 (sym (ap is_some same)), λ within. refl)

pub lent_has_its_number : (r : Option (Bor Held)) (n : ℕ) (hs : List Held) → option_copied r ≡ packet_of n hs → IfSome r (λ h. h.now.n ≡ n)
lent_has_its_number None n hs same = tt
lent_has_its_number (Some h) n hs same = subst (λ (found : Option Held). IfSome found (λ k. k.n ≡ n)) (sym same) (has_its_number n hs)

-- the newest packet has the number below the end
newest : (m : ℕ) (h : Held) (hs : List Held) (k : ℕ) → Follows m (h ∷ hs) → k ≡ length hs → IfSome (slice_get (h ∷ hs) k) (λ last. last.n + 1 ≡ hi (h ∷ hs))
unfolding hi
newest m h [] zero f at = refl
newest m h [] (suc k) f at = tt
newest m h (j ∷ hs) zero f at = absurd (omega (arith, at))
newest m h (j ∷ hs) (suc k) f at = newest (m + 1) j hs k f.1 (omega (arith, at))

pub newest_of : (r : Option (Bor Held)) (hs : List Held) → Follows (lo hs) hs → option_copied r ≡ slice_get hs (length hs - 1) → MatchOption r (hi hs ≡ 0) (λ h. h.now.n + 1 ≡ hi hs)
unfolding hi
newest_of None [] f same = refl
newest_of None (h ∷ hs) f same = let within = (is_there (h ∷ hs) (length (h ∷ hs) - 1)).1 (omega arith) in absurd cc
newest_of (Some k) [] f same = cc
newest_of (Some k) (h ∷ hs) f same =
    subst (λ (found : Option Held). IfSome found (λ last. last.n + 1 ≡ hi (h ∷ hs))) (sym same) (newest h.n h hs (length (h ∷ hs) - 1) f (omega arith))
