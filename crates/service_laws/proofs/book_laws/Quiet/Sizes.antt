-- Each packet of the source has a wire size, and one of at most 1,500 bytes.
use Rattle.std.proofs.Common.{ℕ, ◌≤◌, Bool, List, [], ◌∷◌, ◌++◌, arith, ltb}
use Rattle.std.specs.Prelude.{filter}
use Rattle.std.proofs.lemmas.Bool.{cond_both}
use Rattle.rams_model.specs.declared.{Held.Held, LiveNote.LiveNote}
use Rattle.rams_model.specs.declared.LiveNote.TheVariants.{Took, Restart, Jump}
use Rattle.rams_model.specs.Formats.{wire_size}
use Rattle.rams_model.specs.Service.{arrivals}
use Rattle.rams_model.specs.Packets.{Arrival, Stream, held_as, with_packet, awaited, live_note, stream_after, stream_of, source}
use Rattle.reckoning.specs.burst_plan.{AreAtMost}
use Rattle.rams_model.specs.Laws.{AreAtLeast}

pub record IsSized (h : Held) : Type 0 where
  pub some : 1 ≤ h.wire
  pub most : h.wire ≤ 1500

abbrev pub AreSized : List Held → Type 0
AreSized [] = Unit {0}
AreSized (h ∷ hs) = IsSized h × AreSized hs

pub sized_append : (hs ks : List Held) → AreSized hs → AreSized ks → AreSized (hs ++ ks)
sized_append [] ks a b = b
sized_append (h ∷ hs) ks a b = (a.0, sized_append hs ks a.1 b)

pub sized_filter : (test : Held → Bool) (hs : List Held) → AreSized hs → AreSized (filter test hs)
sized_filter test [] a = a
sized_filter test (h ∷ hs) a =
    cond_both (test h) (h ∷ filter test hs) (filter test hs) AreSized (λ t. (a.0, sized_filter test hs a.1)) (λ f. sized_filter test hs a.1)

sized_with : (new : Held) (hs : List Held) → IsSized new → AreSized hs → AreSized (with_packet new hs)
sized_with new [] i a = (i, a)
sized_with new (h ∷ hs) i a = cond_both (ltb new.n h.n) (new ∷ h ∷ hs) (h ∷ with_packet new hs) AreSized (λ t. (i, a)) (λ f. (a.0, sized_with new hs i a.1))

-- the packets of a stream
record IsSizedStream (s : Stream) : Type 0 where
  ended : AreSized s.ended
  present : AreSized s.present

sized_held : (n : ℕ) (a : Arrival) → wire_size a.packet ≤ 1500 → IsSized (held_as n a)
sized_held n a le = record { some = omega arith; most = le }

sized_after : (s : Stream) (a : Arrival) (note : LiveNote) → wire_size a.packet ≤ 1500 → IsSizedStream s → IsSizedStream (stream_after s a note)
sized_after s a (Took n) le i = record { ended = i.ended; present = sized_with (held_as n a) s.present (sized_held n a le) i.present }
sized_after s a (Restart n) le i = record { ended = sized_append s.ended s.present i.ended i.present; present = (sized_held n a le, tt) }
sized_after s a Jump le i = record { ended = i.ended; present = i.present }
sized_after s a note le i = i

-- what arrived fits
abbrev pub ArriveSmall : List Arrival → Type 0
ArriveSmall [] = Unit {0}
ArriveSmall (a ∷ arrivals) = (wire_size a.packet ≤ 1500) × ArriveSmall arrivals

sized_stream : (window : ℕ) (arrivals : List Arrival) → ArriveSmall arrivals → IsSizedStream (stream_of window arrivals)
unfolding stream_of
sized_stream window [] small = record { ended = tt; present = tt }
sized_stream window (a ∷ arrivals) small =
    let s = stream_of window arrivals in sized_after s a (live_note window s a.sequence) small.0 (sized_stream window arrivals small.1)

pub sized_source : (window : ℕ) (arrivals : List Arrival) → ArriveSmall arrivals → AreSized (source window (stream_of window arrivals))
unfolding source
sized_source window arrivals small =
    let s = stream_of window arrivals in
    let i = sized_stream window arrivals small in
    sized_append s.ended (filter (λ h. ltb h.n (awaited window s.present)) s.present) i.ended (sized_filter (λ h. ltb h.n (awaited window s.present)) s.present i.present)

pub at_most : (hs : List Held) → AreSized hs → AreAtMost 1500 hs
at_most [] a = tt
at_most (h ∷ hs) a = (a.0.most, at_most hs a.1)

pub at_least_one : (hs : List Held) → AreSized hs → AreAtLeast 1 hs
at_least_one [] a = tt
at_least_one (h ∷ hs) a = (a.0.some, at_least_one hs a.1)
