-- A held packet has its wire size.
use Rattle.std.proofs.Common.{◌≡◌, ℕ, ◌-◌, List, [], ◌∷◌, Some, length, suc, refl, subst, arith, eqb, ltb}
use Rattle.std.specs.Prelude.{All}
use Rattle.std.specs.List.{AllByRecursion}
use Rattle.std.proofs.lemmas.Bool.{cond_both}
use Rattle.std.proofs.lemmas.List.Elements.{All-cons, All-append, All-filter, All-drop, recursion_from_All}
use Rattle.rams_model.specs.declared.{Held.Held, LiveNote.LiveNote}
use Rattle.rams_model.specs.declared.LiveNote.TheVariants.{Took, Restart, Jump}
use Rattle.rams_model.specs.Formats.{wire_size}
use Rattle.rams_model.specs.Service.{Settings, History, arrivals, hold}
use Rattle.rams_model.specs.Packets.{Arrival, Stream, held_as, with_packet, awaited, live_note, stream_after, stream_of, consecutive_end, source}
use Rattle.rams_model.specs.Packets.Source as sources
use Rattle.channel_cache.specs.packet_ring.{packet_of}

-- the packet has its wire size
abbrev pub IsSized : Held → Type 0
IsSized h = h.wire ≡ wire_size h.packet

others : (h : Held) (hs : List Held) → All IsSized (h ∷ hs) → All IsSized hs
others h hs a = λ k d less. a (suc k) d (omega (arith, less))

no_packets : All IsSized []
no_packets = λ k d less. absurd (omega (arith, less))

sized_with : (new : Held) (hs : List Held) → IsSized new → All IsSized hs → All IsSized (with_packet new hs)
sized_with new [] i a = All-cons IsSized new [] i a
sized_with new (h ∷ hs) i a =
    cond_both (ltb new.n h.n) (new ∷ h ∷ hs) (h ∷ with_packet new hs) (All IsSized) (λ t. All-cons IsSized new (h ∷ hs) i a)
    (λ f. All-cons IsSized h (with_packet new hs) (a 0 h (omega arith)) (sized_with new hs i (others h hs a)))

record AreSized (s : Stream) : Type 0 where
  ended : All IsSized s.ended
  present : All IsSized s.present

sized_after : (s : Stream) (a : Arrival) (note : LiveNote) → AreSized s → AreSized (stream_after s a note)
sized_after s a (Took n) i = record { ended = i.ended; present = sized_with (held_as n a) s.present refl i.present }
sized_after s a (Restart n) i = record { ended = All-append IsSized s.ended s.present i.ended i.present; present = All-cons IsSized (held_as n a) [] refl no_packets }
sized_after s a Jump i = record { ended = i.ended; present = i.present }
sized_after s a note i = i

sized_stream : (window : ℕ) (came : List Arrival) → AreSized (stream_of window came)
unfolding stream_of
sized_stream window [] = record { ended = no_packets; present = no_packets }
sized_stream window (a ∷ came) = let s = stream_of window came in sized_after s a (live_note window s a.sequence) (sized_stream window came)

sized_end : (hs : List Held) → All IsSized hs → All IsSized (consecutive_end hs)
unfolding consecutive_end
sized_end [] a = a
sized_end (h ∷ hs) a =
    cond_both (sources.is_consecutive (h ∷ hs)) (h ∷ hs) (consecutive_end hs) (All IsSized) (λ t. a) (λ f. sized_end hs (others h hs a))

-- so has each that is held
pub all_sized : (s : Settings) (history : History) → All IsSized (hold s history)
unfolding source sources.hold
all_sized s history =
    let stream = stream_of s.channel.window (arrivals history) in
    let i = sized_stream s.channel.window (arrivals history) in
    let all = source s.channel.window stream in
    let a : All IsSized all =
    All-append IsSized stream.ended _ i.ended (All-filter (λ x. ltb x.n (awaited s.channel.window stream.present)) IsSized stream.present i.present) in
    All-drop IsSized (length (consecutive_end all) - s.channel.ring) (consecutive_end all) (sized_end all a)

found_sized : (n : ℕ) (hs : List Held) (h : Held) → AllByRecursion IsSized hs → packet_of n hs ≡ Some h → IsSized h
found_sized n [] h each found = absurd cc
found_sized n (k ∷ hs) h each found =
    cond_both (eqb k.n n) (Some k) (packet_of n hs) (λ o. o ≡ Some h → IsSized h) (λ t is. let same : k ≡ h = cc in subst IsSized same each.0) (λ f is. found_sized n hs h each.1 is) found

-- a packet that is held has its wire size
pub held_sized : (s : Settings) (history : History) (n : ℕ) (h : Held) → packet_of n (hold s history) ≡ Some h → h.wire ≡ wire_size h.packet
held_sized s history n h found = found_sized n (hold s history) h (recursion_from_All IsSized (hold s history) (all_sized s history)) found
