-- The numbers of held packets are small as long as few packets came.
use Rattle.std.proofs.Common.{◌≡◌, ℕ, zero, suc, ◌+◌, ◌-◌, ◌*◌, ◌^◌, ◌<◌, ◌≤◌, cond, not, List, [], ◌∷◌, ◌++◌, length, Option, refl, subst, arith, ltb, eqb}
use Rattle.std.specs.Prelude.{All, Result, Ok, Err}
use Rattle.std.specs.List.{AllByRecursion as Each}
use Rattle.std.proofs.lemmas.Bool.{cond_both}
use Rattle.std.proofs.lemmas.List.Elements.{All-cons, recursion_from_All}
use Rattle.rams_model.specs.declared.{Channel.Channel, Held.Held, RtpFault.RtpFault, LiveNote.LiveNote}
use Rattle.rams_model.specs.declared.LiveNote.TheVariants.{Took, Restart, Late, Twice, Jump, TooBig}
use Rattle.rams_model.specs.Service.{Settings, dropped, arrival, heard_packet, History, arrivals, hold}
use Rattle.rams_model.specs.Formats.{Packet, packet_at}
use Rattle.rams_model.specs.Packets.{hi, Numbered, forward, backward, jump, restart, ahead, is_kept, after_greatest, numbered, Arrival, Stream, held_as, has_number, with_packet, awaited, greatest, in_time, note_of, live_note, stream_after, stream_of, source}
use Rattle.rams_model.specs.Packets.Source as sources
use Rattle.rams_model.proofs.PlainPackets.{below_at}
use Rattle.rams_model.proofs.RtpPackets.{spelled_so}
use Rattle.channel_cache.specs.{arrivals_heard, arrivals_after}
use Rattle.rams_model.proofs.Legality.{each_passed}
use Rattle.rams_model.proofs.HeldEnds.{hi-hold, hi-hold_none}
use Rattle.rams_model.proofs.ListFacts.{each_weaker}
use Rattle.channel_parts.specs.{HaveLowNumbers}

-- their numbers are below a bound
abbrev Below : ℕ → List Held → Type 0
Below most hs = Each (λ h. h.n < most) hs

hi_within : (most : ℕ) (hs : List Held) → Below most hs → hi hs ≤ most
unfolding hi
hi_within most [] b = omega arith
hi_within most (h ∷ []) b = omega (arith, b.0)
hi_within most (h ∷ k ∷ hs) b = hi_within most (k ∷ hs) b.1

below_more : (most more : ℕ) (hs : List Held) → most ≤ more → Below most hs → Below more hs
below_more most more hs le b = each_weaker (λ h. h.n < most) (λ h. h.n < more) (λ h lt. omega (arith, le, lt)) hs b

below_both : (most : ℕ) (hs ks : List Held) → Below most hs → Below most ks → Below most (hs ++ ks)
below_both most [] ks b c = c
below_both most (h ∷ hs) ks b c = (b.0, below_both most hs ks b.1 c)

below_with : (most : ℕ) (new : Held) (hs : List Held) → new.n < most → Below most hs → Below most (with_packet new hs)
below_with most new [] lt b = (lt, tt)
below_with most new (h ∷ hs) lt b =
    cond_both (ltb new.n h.n) (new ∷ h ∷ hs) (h ∷ with_packet new hs) (Below most) (λ t. (lt, b)) (λ f. (b.0, below_with most new hs lt b.1))

-- and so are those of a stream
record AreBelow (most : ℕ) (s : Stream) : Type 0 where
  ended : Below most s.ended
  present : Below most s.present

-- the number of a packet that is taken
abbrev Takes : ℕ → LiveNote → Type 0
Takes most (Took n) = n < most
Takes most (Restart n) = n < most
Takes most _ = Unit {0}

below_after : (most more : ℕ) (s : Stream) (a : Arrival) (note : LiveNote) → most ≤ more → AreBelow most s → Takes more note → AreBelow more (stream_after s a note)
below_after most more s a (Took n) le b lt =
    record { ended = below_more most more s.ended le b.ended; present = below_with more (held_as n a) s.present lt (below_more most more s.present le b.present) }
below_after most more s a (Restart n) le b lt =
    record { ended = below_both more s.ended s.present (below_more most more s.ended le b.ended) (below_more most more s.present le b.present); present = (lt, tt) }
below_after most more s a Jump le b lt = record { ended = below_more most more s.ended le b.ended; present = below_more most more s.present le b.present }
below_after most more s a note le b lt = record { ended = below_more most more s.ended le b.ended; present = below_more most more s.present le b.present }

in_time_takes : (most window n : ℕ) (present : List Held) → n < most → Takes most (in_time window present n)
in_time_takes most window n present lt =
    cond_both (ltb n (awaited window present)) Late (cond (has_number n present) Twice (Took n)) (Takes most) (λ t. tt)
    (λ f. cond_both (has_number n present) Twice (Took n) (Takes most) (λ t. tt) (λ g. lt))

-- at most 65,536 above the greatest
takes : (most window g u : ℕ) (present : List Held) (kept : Option ℕ) (sequence : ℕ) → g < most → u < 65536
    → Takes (most + 65536) (note_of window present (after_greatest g kept sequence u))
takes most window g u present kept sequence lt small =
    let P : Numbered → Type 0 = λ n. Takes (most + 65536) (note_of window present n) in
    cond_both (ltb u 3000) (forward (g + u)) (cond (ltb 65436 u) (backward (g - (65536 - u))) (cond (is_kept kept sequence) (restart (g + u)) jump)) P
    (λ t. in_time_takes (most + 65536) window (g + u) present (omega (arith, lt, small)))
    (λ f. cond_both (ltb 65436 u) (backward (g - (65536 - u))) (cond (is_kept kept sequence) (restart (g + u)) jump) P
    (λ t. in_time_takes (most + 65536) window (g - (65536 - u)) present (omega (arith, lt)))
    (λ f2. cond_both (is_kept kept sequence) (restart (g + u)) jump P (λ t. omega (arith, lt, small)) (λ f3. tt)))

noted_takes : (most window : ℕ) (present : List Held) (kept : Option ℕ) (sequence : ℕ) → 65536 ≤ most → sequence < 65536 → Below most present
    → Takes (most + 65536) (note_of window present (numbered (greatest present) kept sequence))
unfolding numbered
noted_takes most window [] kept sequence some low b = omega (arith, some, low)
noted_takes most window (h ∷ hs) kept sequence some low b =
    let g = hi (h ∷ hs) - 1 in
    let lt : g < most = omega (arith, some, hi_within most (h ∷ hs) b) in
    takes most window g (ahead sequence g) (h ∷ hs) kept sequence lt (omega arith)

-- the bound of the numbers of so many packets
abbrev bound : ℕ → ℕ
bound count = 65536 * (count + 1)

all_below : (window : ℕ) (packets : List Arrival) → Each (λ a. a.sequence < 2 ^ 16) packets → AreBelow (bound (length packets)) (stream_of window packets)
unfolding stream_of live_note
all_below window [] low = record { ended = tt; present = tt }
all_below window (a ∷ packets) low =
    let s = stream_of window packets in
    let most = bound (length packets) in
    let before = all_below window packets low.1 in
    let more : most + 65536 ≡ bound (length (a ∷ packets)) = omega arith in
    subst (λ (m : ℕ). AreBelow m (stream_after s a (live_note window s a.sequence))) more
    (below_after most (most + 65536) s a (live_note window s a.sequence) (omega arith) before
    (noted_takes most window s.present s.kept a.sequence (omega arith) low.0 before.present))

source_below : (window most : ℕ) (s : Stream) → AreBelow most s → Below most (source window s)
unfolding source
source_below window most s b =
    below_both most s.ended _ b.ended (each_passed (λ h. h.n < most) (λ h. ltb h.n (awaited window s.present)) s.present b.present)

hold_within : (window ring most : ℕ) (s : Stream) → AreBelow most s → hi (sources.hold window ring s) ≤ most
hold_within window zero most s b = omega (arith, hi-hold_none window s)
hold_within window (suc r) most s b = omega (arith, hi-hold window (suc r) s (omega arith), hi_within most (source window s) (source_below window most s b))

pub held_small : (s : Settings) (history : History) → HaveLowNumbers (arrivals history) → length (arrivals history) ≤ 2 ^ 40 → hi (hold s history) ≤ 2 ^ 62
held_small s history low few =
    let packets = arrivals history in
    let window = s.channel.window in
    omega (
      arith,
      few,
      hold_within window s.channel.ring (bound (length packets)) (stream_of window packets)
          (all_below window packets (recursion_from_All (λ (a : Arrival). a.sequence < 2 ^ 16) packets low)),
    )

-- a packet that is read
read_low : (c : Channel) (packets : List Arrival) (r : Result Packet RtpFault) → ((p : Packet) → r ≡ Ok p → p.sequence < 2 ^ 16) → HaveLowNumbers packets
    → HaveLowNumbers (arrivals_heard packets (heard_packet c r))
read_low c packets (Err fault) is low = low
read_low c packets (Ok p) is low =
    cond_both (not (eqb p.ssrc c.ssrc)) _ _ (λ h. HaveLowNumbers (arrivals_heard packets h)) (λ t. low)
    (λ f. cond_both (not (eqb p.payload_type c.pt)) _ _ (λ h. HaveLowNumbers (arrivals_heard packets h)) (λ t. low)
    (λ g. All-cons (λ (a : Arrival). a.sequence < 2 ^ 16) (arrival c p) packets (is p refl) low))

pub reads_low : (s : Settings) (bytes : List ℕ) (packets : List Arrival) → All (λ b. b < 256) bytes → HaveLowNumbers packets → HaveLowNumbers (arrivals_after s bytes packets)
reads_low s bytes packets are low =
    cond_both (ltb 1470 (length bytes)) (dropped TooBig) (heard_packet s.channel (packet_at bytes)) (λ h. HaveLowNumbers (arrivals_heard packets h)) (λ t. low)
    (λ f. read_low s.channel packets (packet_at bytes) (λ p e. (spelled_so bytes p (below_at bytes are) e).0.sequence) low)
