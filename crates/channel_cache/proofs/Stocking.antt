-- What the ring keeps for the next packet is what the index keeps.
use Rattle.std.proofs.Common.{◌≡◌, ℕ, zero, suc, ◌+◌, ◌-◌, ◌<◌, ◌≤◌, Bool, true, false, ◌==◌, nat_le, if◌then◌else◌, List, [], ◌∷◌, ◌++◌, length, drop, refl, sym, ap, ◌∙◌, subst, arith}
use Rattle.std.proofs.lemmas.List.{length-append}
use Rattle.std.proofs.lemmas.Bool.Decides.{nat_tests}
use Rattle.rams_model.specs.declared.Held.{Held}
use Rattle.rams_model.specs.Packets.{lo, hi, last_of, from_number, Follows}
use Rattle.rams_model.proofs.Holding.{all_from, one_behind}
use Rattle.channel_cache.specs.packet_ring.{with_next, pushed, IsRing}
use Rattle.channel_cache.specs.packet_ring.Seen as rings
use Rattle.channel_cache.specs.access_index.{StandsFor}
use Rattle.channel_cache.specs.access_index.Seen as indexes
use Rattle.reckoning.proofs.ext_seq.Tops.{hi_one, hi_end}

-- packets from a number on
from_step : (n : ℕ) (h : Held) (hs ks : List Held) (b : Bool) → b ≡ false → from_number n hs ≡ ks → (if b then h ∷ from_number n hs else from_number n hs) ≡ ks
from_step n h hs ks true isnt is = cc
from_step n h hs ks false isnt is = is

-- all but the first so many
from_later : (m d : ℕ) (hs : List Held) → Follows m hs → d ≤ length hs → from_number (m + d) hs ≡ drop d hs
from_later m zero hs follows few = ap (λ n. from_number n hs) (omega arith) ∙ all_from m m hs follows (omega arith)
from_later m (suc d) [] follows few = refl
from_later m (suc d) (h ∷ hs) follows few =
    let below : h.n < m + suc d = omega (arith, follows.0) in
    from_step (m + suc d) h hs (drop d hs) (nat_le (m + suc d) h.n) (grind (arith, nat_tests))
    (ap (λ n. from_number n hs) (omega arith) ∙ from_later (m + 1) d hs follows.1 (omega arith))

-- none from the end on
from_end : (n m : ℕ) (hs : List Held) → Follows m hs → m + length hs ≤ n → from_number n hs ≡ []
from_end n m [] follows above = refl
from_end n m (h ∷ hs) follows above =
    let below : h.n < n = omega (arith, follows.0) in
    from_step n h hs [] (nat_le n h.n) (grind (arith, nat_tests)) (from_end n (m + 1) hs follows.1 (omega arith))

-- the last of packets that follow one another
pub last_number : (m : ℕ) (hs : List Held) (h : Held) → Follows m (hs ++ h ∷ []) → h.n ≡ m + length hs
last_number m [] h follows = follows.0 ∙ omega arith
last_number m (k ∷ hs) h follows = last_number (m + 1) hs h follows.1 ∙ omega arith

-- the first behind the first so many
lo_later : (m d : ℕ) (hs : List Held) (h : Held) → Follows m (hs ++ h ∷ []) → d ≤ length hs → lo (drop d (hs ++ h ∷ [])) ≡ m + d
lo_later m zero [] h follows few = follows.0 ∙ omega arith
lo_later m zero (k ∷ hs) h follows few = follows.0 ∙ omega arith
lo_later m (suc d) [] h follows few = absurd (omega arith)
lo_later m (suc d) (k ∷ hs) h follows few = lo_later (m + 1) d hs h follows.1 (omega arith) ∙ omega arith

drop_end : (d : ℕ) (hs : List Held) (h : Held) → d ≤ length hs → drop d (hs ++ h ∷ []) ≡ drop d hs ++ h ∷ []
drop_end zero hs h few = refl
drop_end (suc d) [] h few = absurd (omega arith)
drop_end (suc d) (k ∷ hs) h few = drop_end d hs h (omega arith)

-- where the number is the next
next_left : (capacity : ℕ) (k : Held) (ks : List Held) (h : Held) → 1 ≤ capacity → length (k ∷ ks) ≤ capacity → Follows k.n (k ∷ ks) → h.n ≡ k.n + length (k ∷ ks)
    → from_number (lo (last_of capacity (k ∷ ks ++ h ∷ []))) (k ∷ ks) ++ h ∷ [] ≡ last_of capacity (k ∷ ks ++ h ∷ [])
next_left capacity k ks h some fits follows next =
    let held = k ∷ ks in
    let d : ℕ = length (held ++ h ∷ []) - capacity in
    let few : d ≤ length held = omega (arith, length-append held (h ∷ [])) in
    let first = lo_later k.n d held h (one_behind k.n held h follows next) few in
    ap (λ n. from_number n held ++ h ∷ []) first ∙ (ap (λ (l : List Held). l ++ h ∷ []) (from_later k.n d held follows few) ∙ sym (drop_end d held h few))

-- where it is greater
alone_left : (n m : ℕ) (held : List Held) (h : Held) → Follows m held → m + length held ≤ h.n → from_number (lo (h ∷ [])) held ++ h ∷ [] ≡ h ∷ []
alone_left n m held h follows above = ap (λ (l : List Held). l ++ h ∷ []) (from_end h.n m held follows above)

left_step : (capacity : ℕ) (held : List Held) (h : Held) (b : Bool) → (b ≡ true → from_number (lo (last_of capacity (held ++ h ∷ []))) held ++ h ∷ [] ≡ last_of capacity (held ++ h ∷ [])) → from_number (lo (h ∷ [])) held ++ h ∷ [] ≡ h ∷ []
    → let after : List Held = if b then last_of capacity (held ++ h ∷ []) else h ∷ [] in from_number (lo after) held ++ h ∷ [] ≡ after
left_step capacity held h true next alone = next refl
left_step capacity held h false next alone = alone

-- What is held after a packet was put in is what is left of the packets from its first number on, and the packet.
pub left_and_next : (capacity : ℕ) (held : List Held) (h : Held) → IsRing (record { capacity = capacity; held = held }) → hi held ≤ h.n
    → from_number (lo (with_next capacity held h)) held ++ h ∷ [] ≡ with_next capacity held h
left_and_next capacity [] h ring above =
    let none : 1 - capacity ≡ 0 = omega (arith, ring.room) in
    left_step capacity [] h (h.n == hi []) (λ next. sym (ap (λ d. drop d (h ∷ [])) none)) refl
left_and_next capacity (k ∷ ks) h ring above =
    left_step capacity (k ∷ ks) h (h.n == hi (k ∷ ks))
    (λ next. let same : h.n ≡ hi (k ∷ ks) = grind (arith, nat_tests) in next_left capacity k ks h ring.room ring.fits ring.follows (same ∙ ring.ends))
    (alone_left h.n k.n (k ∷ ks) h ring.follows (omega (arith, ring.ends)))

-- marks that are left are fewer than there is room for, and the packet has the number after the last
pub next_mark : (v : indexes.Seen) (marks after : List Held) (h : Held) → StandsFor v marks → marks ++ h ∷ [] ≡ after → Follows (lo after) after → v.lo < v.hi → h.n ≡ v.hi
next_mark v [] after h stood is follows some = absurd (omega (arith, stood.hi))
next_mark v (k ∷ ks) after h stood is follows some =
    let f : Follows k.n (k ∷ ks ++ h ∷ []) = subst (λ (l : List Held). Follows (lo l) l) (sym is) follows in
    omega (arith, last_number k.n (k ∷ ks) h f, stood.numbers.0, stood.hi)

pub room_left : (v : indexes.Seen) (marks after : List Held) (h : Held) (capacity : ℕ) → StandsFor v marks → marks ++ h ∷ [] ≡ after → length after ≤ capacity → v.hi - v.lo < capacity
room_left v marks after h capacity stood is fits = omega (arith, stood.hi, ap length is, length-append marks (h ∷ []))

-- the same of the ring and the number from which on the index keeps its marks
pub pushed_marks : (old new : rings.Seen) (first : ℕ) (h : Held) → IsRing old → hi old.held ≤ h.n → new ≡ pushed old h → first ≡ lo new.held → from_number first old.held ++ h ∷ [] ≡ new.held
pushed_marks old new first h ring above step is =
    let after : new.held ≡ with_next old.capacity old.held h = ap (λ r. r.held) step in
    ap (λ n. from_number n old.held ++ h ∷ []) (is ∙ ap lo after) ∙ (left_and_next old.capacity old.held h ring above ∙ sym after)

-- what is held ends with the packet that was put in
end_step : (capacity : ℕ) (held : List Held) (h : Held) (b : Bool) → hi (last_of capacity (held ++ h ∷ [])) ≡ h.n + 1 → hi (if b then last_of capacity (held ++ h ∷ []) else h ∷ []) ≡ h.n + 1
end_step capacity held h true is = is
end_step capacity held h false is = hi_one h

pub pushed_end : (v : rings.Seen) (h : Held) → 1 ≤ v.capacity → hi (pushed v h).held ≡ h.n + 1
pushed_end v h some =
    let d : ℕ = length (v.held ++ h ∷ []) - v.capacity in
    let few : d ≤ length v.held = omega (arith, length-append v.held (h ∷ [])) in
    end_step v.capacity v.held h (h.n == hi v.held) (ap hi (drop_end d v.held h few) ∙ hi_end h (drop d v.held))
