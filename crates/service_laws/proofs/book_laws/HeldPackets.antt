-- Each held packet takes at most 1,500 bytes on the wire, and the end of what is held moves no further down.
use Rattle.std.proofs.Common.{◌≡◌, ℕ, zero, suc, ◌+◌, ◌-◌, ◌≤◌, Bool, cond, not, List, [], ◌∷◌, ◌++◌, length, drop, refl, ap, ◌∙◌, subst, arith, eqb, leb, ltb, sym}
use Rattle.std.specs.Prelude.{filter, Result, Ok, Err}
use Rattle.std.proofs.lemmas.Bool.{cond_both, ltb-false}
use Rattle.std.proofs.lemmas.List.{length-take, length-drop, length-append}
use Rattle.rams_model.specs.declared.{Channel.Channel, Event.Event, FrameFault.FrameFault, RtpFault.RtpFault, Held.Held}
use Rattle.rams_model.specs.declared.Event.TheVariants.{Live, Feedback, Tick}
use Rattle.rams_model.specs.declared.LiveNote.TheVariants.{TooBig, ForeignSsrc, ForeignType}
use Rattle.rams_model.specs.Service.{Settings, Heard, live, dropped, arrival, heard_packet, heard_feedback, heard_of, began, History, arrivals, hold, feedback, unframed, tick, after_hearing, history_of}
use Rattle.rams_model.specs.Formats.{Packet, header, spelling, stripped, wire_size, packet_at, fields_of, Framed, framed}
use Rattle.rams_model.specs.Packets.{hi, from_number, Arrival, stream_of, consecutive_end, source}
use Rattle.rams_model.specs.Packets.Source as sources
use Rattle.rams_model.specs.Laws.{Rises}
use Rattle.rams_model.proofs.RtpPackets.{read_has_no_fault}
use Rattle.rams_model.proofs.Rising.{below_hi}
use Rattle.rams_model.proofs.Growing.{source_rises, source_grows}
use Rattle.rams_model.proofs.HeldEnds.{hi-hold, hi-hold_none}
use Rattle.rams_model.proofs.Induction.{arrivals_of_event}
use Rattle.service_laws.proofs.book_laws.Quiet.Sizes.{ArriveSmall, AreSized, sized_source}

-- each packet fits into a datagram that isn't cut into fragments
abbrev pub AreSmall : List Held → Type 0
AreSmall [] = Unit {0}
AreSmall (h ∷ hs) = (h.wire ≤ 1500) × AreSmall hs

small_filter : (test : Held → Bool) (hs : List Held) → AreSmall hs → AreSmall (filter test hs)
small_filter test [] a = a
small_filter test (h ∷ hs) a =
    cond_both (test h) (h ∷ filter test hs) (filter test hs) AreSmall (λ t. (a.0, small_filter test hs a.1)) (λ f. small_filter test hs a.1)

small_end : (hs : List Held) → AreSmall hs → AreSmall (consecutive_end hs)
unfolding consecutive_end
small_end [] a = a
small_end (h ∷ hs) a = cond_both (sources.is_consecutive (h ∷ hs)) (h ∷ hs) (consecutive_end hs) AreSmall (λ t. a) (λ f. small_end hs a.1)

small_drop : (n : ℕ) (hs : List Held) → AreSmall hs → AreSmall (drop n hs)
small_drop zero hs a = a
small_drop (suc n) [] a = a
small_drop (suc n) (h ∷ hs) a = small_drop n hs a.1

small_sized : (hs : List Held) → AreSized hs → AreSmall hs
small_sized [] a = tt
small_sized (h ∷ hs) a = (a.0.most, small_sized hs a.1)

pub small_held : (s : Settings) (history : History) → ArriveSmall (arrivals history) → AreSmall (hold s history)
unfolding sources.hold
small_held s history small =
    let all = source s.channel.window (stream_of s.channel.window (arrivals history)) in
    small_drop (length (consecutive_end all) - s.channel.ring) (consecutive_end all) (small_end all (small_sized all (sized_source s.channel.window (arrivals history) small)))

pub small_from : (n : ℕ) (hs : List Held) → AreSmall hs → AreSmall (from_number n hs)
small_from n hs a = small_filter (λ h. leb n h.n) hs a

-- a packet that is read is, without its padding, no longer than its bytes
stripped_length : (bytes : List ℕ) → 12 ≤ length bytes → length (stripped (fields_of bytes)) ≤ length bytes
unfolding spelling header fields_of
stripped_length bytes le = grind (arith, length-append, length-take, length-drop)

read_small : (bytes : List ℕ) (p : Packet) → packet_at bytes ≡ Ok p → length (stripped p) ≤ length bytes
read_small bytes p e =
    let r = read_has_no_fault bytes p e in subst (λ (q : Packet). length (stripped q) ≤ length bytes) r.1 (stripped_length bytes r.0.short)

-- the live packets that pass the tests fit
abbrev pub HearsSmall : Heard → Type 0
HearsSmall (live a) = wire_size a.packet ≤ 1500
HearsSmall heard = Unit {0}

read_heard : (c : Channel) (bytes : List ℕ) (r : Result Packet RtpFault) → packet_at bytes ≡ r → length bytes ≤ 1470 → HearsSmall (heard_packet c r)
read_heard c bytes (Err fault) e le = tt
read_heard c bytes (Ok p) e le =
    cond_both (not (eqb p.ssrc c.ssrc)) (dropped ForeignSsrc) (cond (not (eqb p.payload_type c.pt)) (dropped ForeignType) (live (arrival c p))) HearsSmall (λ t. tt)
    (λ f. cond_both (not (eqb p.payload_type c.pt)) (dropped ForeignType) (live (arrival c p)) HearsSmall (λ t. tt)
    (λ g. let size = read_small bytes p e in omega (arith, size, le)))

feedback_heard : (client : ℕ) (r : Result (List Framed) FrameFault) → HearsSmall (heard_feedback client r)
feedback_heard client (Err fault) = tt
feedback_heard client (Ok packets) = tt

pub heard_small : (c : Channel) (event : Event) → HearsSmall (heard_of c event)
unfolding heard_of
heard_small c (Live bytes) =
    cond_both (ltb 1470 (length bytes)) (dropped TooBig) (heard_packet c (packet_at bytes)) HearsSmall (λ t. tt)
    (λ f. read_heard c bytes (packet_at bytes) refl (ltb-false 1470 (length bytes) f))
heard_small c (Feedback client bytes) = feedback_heard client (framed bytes)
heard_small c Tick = tt

arrive_small : (s : Settings) (heard : Heard) (history : History) → HearsSmall heard → ArriveSmall (arrivals history) → ArriveSmall (arrivals (after_hearing s heard history))
unfolding arrivals
arrive_small s heard history h small = subst ArriveSmall (sym (arrivals_of_event s heard history)) (begun heard h)
  where
    begun : (heard : Heard) → HearsSmall heard → ArriveSmall (arrivals (began heard ∷ history))
    begun (live a) h = (h, small)
    begun (dropped note) h = small
    begun (feedback c ms) h = small
    begun (unframed c fault) h = small
    begun tick h = small

-- all that ever came
pub all_small : (s : Settings) (events : List Event) → ArriveSmall (arrivals (history_of s events))
unfolding history_of arrivals
all_small s [] = tt
all_small s (event ∷ events) = arrive_small s (heard_of s.channel event) (history_of s events) (heard_small s.channel event) (all_small s events)

-- the end of what is held
hi_more : (n : ℕ) (hs ks : List Held) → Rises n (hs ++ ks) → hi hs ≤ hi (hs ++ ks)
unfolding hi
hi_more n [] ks r = omega arith
hi_more n (h ∷ []) ks r = let lt = below_hi n h ks r in omega (arith, lt)
hi_more n (h ∷ k ∷ hs) ks r = hi_more (h.n + 1) (k ∷ hs) ks r.1

pub hi_grows : (s : Settings) (a : Arrival) (history : History) → hi (hold s history) ≤ hi (hold s (began (live a) ∷ history))
unfolding arrivals
hi_grows s a history = at s.channel.ring refl
  where
    window : ℕ
    window = s.channel.window

    at : (ring : ℕ) → s.channel.ring ≡ ring
        → hi (sources.hold window s.channel.ring (stream_of window (arrivals history))) ≤ hi (sources.hold window s.channel.ring (stream_of window (a ∷ arrivals history)))
    at zero e =
        let none = hi-hold_none window (stream_of window (arrivals history)) in
        let was : hi (sources.hold window s.channel.ring (stream_of window (arrivals history))) ≡ 0 = ap (λ r. hi (sources.hold window r (stream_of window (arrivals history)))) e ∙ none in
        omega (arith, was)
    at (suc ring) e =
        let g = source_grows window a (arrivals history) in
        let r = subst (Rises 0) g.1 (source_rises window (a ∷ arrivals history)) in
        let now = hi-hold window s.channel.ring (stream_of window (a ∷ arrivals history)) (omega (arith, e)) in
        let was = hi-hold window s.channel.ring (stream_of window (arrivals history)) (omega (arith, e)) in
        let end : hi (source window (stream_of window (a ∷ arrivals history))) ≡ hi (source window (stream_of window (arrivals history)) ++ g.0) = ap hi g.1 in
        let more = hi_more 0 (source window (stream_of window (arrivals history))) g.0 r in
        omega (arith, now, was, end, more)
