-- What a numbering keeps after a packet is what the packets in time say with it.
use Rattle.std.proofs.Common.{◌≡◌, ℕ, ◌+◌, ◌-◌, ◌<◌, ◌≤◌, ◌⊎◌, Bool, true, false, nat_lt, if◌then◌else◌, List, [], ◌∷◌, ◌++◌, Option, Some, None, refl, sym, ◌∙◌, ap, subst, inl, inr, arith, ◌^◌, length, IfSome}
use Rattle.std.proofs.lemmas.Bool.{cases_lt}
use Rattle.std.proofs.lemmas.Bool.Decides.{nat_tests}
use Rattle.rams_model.specs.declared.Held.{Held}
use Rattle.rams_model.specs.declared.LiveNote.TheVariants.{Took, Late, Twice}
use Rattle.rams_model.specs.Packets.{hi, Numbered, first, forward, backward, jump, restart, ahead, is_kept, numbered, Arrival, Stream, held_as, has_number, with_packet, awaited, greatest, in_time, note_of, live_note, stream_after, stream_of}
use Rattle.reckoning.specs.declared.ext_seq.numbering.Noted.{Noted}
use Rattle.reckoning.specs.declared.ext_seq.numbering.Noted.TheVariants.{First, Forward}
use Rattle.reckoning.specs.ext_seq.{Seen, noted, moved, IsWithin, IsNumberWithin, StandsFor}
use Rattle.reckoning.proofs.ext_seq.Tops.{AreBelow, hi_one, hi-with_higher, hi-with_lower, AreBelow-wider, AreBelow-with, has_none, has_greatest, awaited-end}

pub greatest-from_hi : (hs : List Held) (n : ℕ) → hi hs ≡ n + 1 → greatest hs ≡ Some n
unfolding hi
greatest-from_hi [] n is = absurd (omega arith)
greatest-from_hi (h ∷ hs) n is = ap Some (omega arith)

-- the number of either answer stays within the bound
pub IsWithin-either : (packets n : ℕ) (x : Noted) → (x ≡ First n) ⊎ (x ≡ Forward n) → IsNumberWithin packets x → IsWithin packets (Some n)
IsWithin-either packets n x (inl is) within = subst (IsNumberWithin packets) is within
IsWithin-either packets n x (inr is) within = subst (IsNumberWithin packets) is within

-- what the definitions may make of a sequence number after a greatest one
abbrev pub IsFit : Option ℕ → Numbered → Type 0
IsFit None (first n) = Unit {0}
IsFit None (forward n) = ⊥
IsFit None (backward n) = ⊥
IsFit None jump = ⊥
IsFit None (restart n) = ⊥
IsFit (Some g) (first n) = ⊥
IsFit (Some g) (forward n) = g ≤ n
IsFit (Some g) (backward n) = n ≤ g
IsFit (Some g) jump = Unit {0}
IsFit (Some g) (restart n) = Unit {0}

pub fit_step : (g u : ℕ) (near far again : Bool) → IsFit (Some g) (if near then forward (g + u) else if far then backward (g - (65536 - u)) else if again then restart (g + u) else jump)
fit_step g u true far again = omega arith
fit_step g u false true again = omega arith
fit_step g u false false true = tt
fit_step g u false false false = tt

pub IsFit-numbered : (g kept : Option ℕ) (sequence : ℕ) → IsFit g (numbered g kept sequence)
unfolding numbered
IsFit-numbered None kept sequence = tt
IsFit-numbered (Some g) kept sequence = let u = ahead sequence g in fit_step g u (nat_lt u 3000) (nat_lt 65436 u) (is_kept kept sequence)

-- what is kept is what these packets in time say, of which none has a number above the last
pub record Follows (v : Seen) (s : Stream) : Type 0 where
  pub greatest : v.greatest ≡ greatest s.present
  pub kept : v.kept ≡ s.kept
  pub below : AreBelow (hi s.present) s.present

-- a packet whose number came changes nothing
pub known_step : (s : Stream) (a : Arrival) (n : ℕ) (late twice : Bool) → twice ≡ true → stream_after s a (if late then Late else if twice then Twice else Took n) ≡ s
known_step s a n true twice is = refl
known_step s a n false true is = refl
known_step s a n false false is = cc

pub known : (window : ℕ) (s : Stream) (a : Arrival) (n : ℕ) → has_number n s.present ≡ true → stream_after s a (in_time window s.present n) ≡ s
known window s a n is = known_step s a n (nat_lt n (awaited window s.present)) (has_number n s.present) is

-- one that is neither late nor known is in time
pub new_step : (s : Stream) (a : Arrival) (n : ℕ) (late twice : Bool) → late ≡ false → twice ≡ false → stream_after s a (Took n) ≡ stream_after s a (if late then Late else if twice then Twice else Took n)
new_step s a n true twice isnt h = cc
new_step s a n false true isnt h = cc
new_step s a n false false isnt h = refl

pub new_one : (window : ℕ) (s : Stream) (a : Arrival) (n : ℕ) → awaited window s.present ≤ n → has_number n s.present ≡ false → stream_after s a (Took n) ≡ stream_after s a (in_time window s.present n)
new_one window s a n due isnt = new_step s a n (nat_lt n (awaited window s.present)) (has_number n s.present) (grind (arith, nat_tests)) isnt

-- and any is one of the three
pub any_step : (v : Seen) (s : Stream) (a : Arrival) (n : ℕ) (late twice : Bool) → Follows v s → Follows v (stream_after s a (Took n)) → Follows v (stream_after s a (if late then Late else if twice then Twice else Took n))
any_step v s a n true twice old new = old
any_step v s a n false true old new = old
any_step v s a n false false old new = new

pub follows_forward : (window : ℕ) (v : Seen) (ended : List Held) (h : Held) (hs : List Held) (kept : Option ℕ) (a : Arrival) (n : ℕ) → v.kept ≡ kept → AreBelow (hi (h ∷ hs)) (h ∷ hs) → hi (h ∷ hs) - 1 ≤ n → (n < hi (h ∷ hs)) ⊎ (hi (h ∷ hs) ≤ n) → Follows (record v { greatest = Some n }) (stream_after (record { ended = ended; present = h ∷ hs; kept = kept }) a (in_time window (h ∷ hs) n))
follows_forward window v ended h hs kept a n same below from (inl less) =
    let s : Stream = record { ended = ended; present = h ∷ hs; kept = kept } in
    subst (λ (t : Stream). Follows (record v { greatest = Some n }) t) (sym (known window s a n (has_greatest n h hs (omega (arith, below.0)))))
    (record { greatest = ap Some (omega (arith, below.0)); kept = same; below = below })
follows_forward window v ended h hs kept a n same below from (inr above) =
    let s : Stream = record { ended = ended; present = h ∷ hs; kept = kept } in
    let top : hi (with_packet (held_as n a) (h ∷ hs)) ≡ n + 1 = hi-with_higher (hi (h ∷ hs)) (held_as n a) (h ∷ hs) below above in
    subst (λ (t : Stream). Follows (record v { greatest = Some n }) t) (new_one window s a n (omega (arith, awaited-end window h hs below.0)) (has_none (hi (h ∷ hs)) n (h ∷ hs) below above))
    (record { greatest = sym (greatest-from_hi (with_packet (held_as n a) (h ∷ hs)) n top); kept = same; below = AreBelow-with (hi (with_packet (held_as n a) (h ∷ hs))) (held_as n a) (h ∷ hs) (omega (arith, top)) (AreBelow-wider (hi (h ∷ hs)) (hi (with_packet (held_as n a) (h ∷ hs))) (h ∷ hs) (omega (arith, top)) below) })

pub follows_behind : (window : ℕ) (v : Seen) (ended : List Held) (h : Held) (hs : List Held) (kept : Option ℕ) (a : Arrival) (n : ℕ) → v.greatest ≡ greatest (h ∷ hs) → v.kept ≡ kept → AreBelow (hi (h ∷ hs)) (h ∷ hs) → n ≤ hi (h ∷ hs) - 1 → Follows v (stream_after (record { ended = ended; present = h ∷ hs; kept = kept }) a (in_time window (h ∷ hs) n))
follows_behind window v ended h hs kept a n top same below low =
    let s : Stream = record { ended = ended; present = h ∷ hs; kept = kept } in
    let less : n < hi (h ∷ hs) = omega (arith, below.0) in
    let hi_same : hi (with_packet (held_as n a) (h ∷ hs)) ≡ hi (h ∷ hs) = hi-with_lower (held_as n a) h hs less in
    any_step v s a n (nat_lt n (awaited window (h ∷ hs))) (has_number n (h ∷ hs)) (record { greatest = top; kept = same; below = below })
    (record { greatest = top ∙ sym (greatest-from_hi (with_packet (held_as n a) (h ∷ hs)) (hi (h ∷ hs) - 1) (hi_same ∙ omega (arith, below.0))); kept = same; below = subst (λ (b : ℕ). AreBelow b (with_packet (held_as n a) (h ∷ hs))) (sym hi_same) (AreBelow-with (hi (h ∷ hs)) (held_as n a) (h ∷ hs) less below) })

-- one packet alone
pub follows_alone : (v : Seen) (ended : List Held) (kept : Option ℕ) (a : Arrival) (n : ℕ) → v.greatest ≡ Some n → v.kept ≡ kept → Follows v (record { ended = ended; present = held_as n a ∷ []; kept = kept })
follows_alone v ended kept a n top same = record { greatest = top ∙ sym (greatest-from_hi (held_as n a ∷ []) n (hi_one (held_as n a))); kept = same; below = (omega (arith, hi_one (held_as n a)), tt) }

-- whatever fits
pub follows_after : (window : ℕ) (v : Seen) (ended present : List Held) (kept : Option ℕ) (a : Arrival) (x : Numbered) → v.greatest ≡ greatest present → v.kept ≡ kept → AreBelow (hi present) present → IsFit (greatest present) x → Follows (moved v a.sequence (noted x)) (stream_after (record { ended = ended; present = present; kept = kept }) a (note_of window present x))
follows_after window v ended [] kept a (first n) top same below fit = follows_alone (moved v a.sequence (noted (first n))) ended kept a n refl same
follows_after window v ended [] kept a (forward n) top same below fit = absurd fit
follows_after window v ended [] kept a (backward n) top same below fit = absurd fit
follows_after window v ended [] kept a jump top same below fit = absurd fit
follows_after window v ended [] kept a (restart n) top same below fit = absurd fit
follows_after window v ended (h ∷ hs) kept a (first n) top same below fit = absurd fit
follows_after window v ended (h ∷ hs) kept a (forward n) top same below fit = follows_forward window v ended h hs kept a n same below fit (cases_lt n (hi (h ∷ hs)))
follows_after window v ended (h ∷ hs) kept a (backward n) top same below fit = follows_behind window v ended h hs kept a n top same below fit
follows_after window v ended (h ∷ hs) kept a jump top same below fit = record { greatest = top; kept = refl; below = below }
follows_after window v ended (h ∷ hs) kept a (restart n) top same below fit = follows_alone (moved v a.sequence (noted (restart n))) (ended ++ h ∷ hs) None a n refl refl

-- none of the packets in time has a number above the last
pub below_of : (window : ℕ) (arrivals : List Arrival) → AreBelow (hi (stream_of window arrivals).present) (stream_of window arrivals).present
unfolding stream_of live_note
below_of window [] = tt
below_of window (a ∷ arrivals) =
    let s = stream_of window arrivals in
    let v : Seen = record { greatest = greatest s.present; kept = s.kept } in
    (follows_after window v s.ended s.present s.kept a (numbered (greatest s.present) s.kept a.sequence) refl refl (below_of window arrivals) (IsFit-numbered (greatest s.present) s.kept a.sequence)).below

-- ---- how far the greatest number rises
more_packets : (packets : ℕ) (g : Option ℕ) → IsWithin packets g → IsWithin (packets + 1) g
more_packets packets None within = tt
more_packets packets (Some g) within = (within.0, omega (arith, within.1))

rises_step : (v : Seen) (sequence g u packets : ℕ) (near far again : Bool) → u < 65536 → v.greatest ≡ Some g → IsWithin packets (Some g)
    → IsWithin (packets + 1) (moved v sequence (noted (if near then forward (g + u) else if far then backward (g - (65536 - u)) else if again then restart (g + u) else jump))).greatest
rises_step v sequence g u packets true far again low is within = (omega (arith, within.0), omega (arith, within.1))
rises_step v sequence g u packets false true again low is within = subst (IsWithin (packets + 1)) (sym is) (more_packets packets (Some g) within)
rises_step v sequence g u packets false false true low is within = (omega (arith, within.0), omega (arith, within.1))
rises_step v sequence g u packets false false false low is within = subst (IsWithin (packets + 1)) (sym is) (more_packets packets (Some g) within)

rises_at : (v : Seen) (sequence packets : ℕ) (g : Option ℕ) → sequence < 65536 → v.greatest ≡ g → IsWithin packets g
    → IsWithin (packets + 1) (moved v sequence (noted (numbered g v.kept sequence))).greatest
unfolding numbered
rises_at v sequence packets None low is within = (omega arith, omega arith)
rises_at v sequence packets (Some g) low is within =
    let u = ahead sequence g in
    let few : u < 65536 = omega arith in
    rises_step v sequence g u packets (nat_lt u 3000) (nat_lt 65436 u) (is_kept v.kept sequence) few is within

pub rises : (v : Seen) (sequence packets : ℕ) → sequence < 65536 → IsWithin packets v.greatest → IsWithin (packets + 1) (moved v sequence (noted (numbered v.greatest v.kept sequence))).greatest
rises v sequence packets low within = rises_at v sequence packets v.greatest low refl within

-- a number that is small is within so many packets
pub within_small : (g : Option ℕ) → IfSome g (λ n. 65536 ≤ n) → IfSome g (λ n. n < 2 ^ 62) → IsWithin (2 ^ 46) g
within_small None from small = tt
within_small (Some g) from small = (from, omega (arith, small))

-- A numbering that stands for these packets stands for them with one more.
pub stands_after : (v : Seen) (window : ℕ) (arrivals : List Arrival) (a : Arrival) → a.sequence < 65536 → StandsFor v window arrivals → StandsFor (moved v a.sequence (noted (numbered v.greatest v.kept a.sequence))) window (a ∷ arrivals)
unfolding stream_of live_note
stands_after v window arrivals a low stood =
    let s = stream_of window arrivals in
    let step : Follows (moved v a.sequence (noted (numbered (greatest s.present) s.kept a.sequence))) (stream_of window (a ∷ arrivals)) =
    follows_after window v s.ended s.present s.kept a (numbered (greatest s.present) s.kept a.sequence) stood.greatest stood.kept (below_of window arrivals) (IsFit-numbered (greatest s.present) s.kept a.sequence) in
    let same : numbered (greatest s.present) s.kept a.sequence ≡ numbered v.greatest v.kept a.sequence =
    sym (ap (λ g. numbered g v.kept a.sequence) stood.greatest ∙ ap (λ k. numbered (greatest s.present) k a.sequence) stood.kept) in
    let w = moved v a.sequence (noted (numbered v.greatest v.kept a.sequence)) in
    let after : Follows w (stream_of window (a ∷ arrivals)) = subst (λ (x : Numbered). Follows (moved v a.sequence (noted x)) (stream_of window (a ∷ arrivals))) same step in
    let within : IsWithin (length (a ∷ arrivals)) w.greatest =
    subst (λ (n : ℕ). IsWithin n w.greatest) (omega arith) (rises v a.sequence (length arrivals) low stood.within) in
    record { greatest = after.greatest; kept = after.kept; within = within }
