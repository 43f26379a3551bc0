-- Each packet that came in time was read of a live event, and what is kept of it is read off its bytes.
use Rattle.std.proofs.Common.{◌≡◌, ℕ, ◌+◌, ◌/◌, ◌%◌, ◌<◌, ◌≤◌, Bool, ⊎_elim, List, [], ◌∷◌, ◌++◌, length, drop, get_or, ap, sym, ◌∙◌, subst, arith, eqb}
use Rattle.std.specs.Prelude.{Ok, All, Contains, IsTrue, ◌↔◌, slice_index}
use Rattle.std.specs.Int.{w16, w32, to_be_bytes, from_be_bytes}
use Rattle.std.specs.List.{AllByRecursion}
use Rattle.std.proofs.lemmas.Bool.{eqb-true, eq-eqb}
use Rattle.std.proofs.lemmas.List.{get_or-drop, length-append}
use Rattle.std.proofs.lemmas.List.Elements.{Contains-append_right}
use Rattle.rams_model.specs.declared.Order.TheVariants as order
use Rattle.rams_model.specs.declared.{Access.Access, Channel.Channel, Access.TheVariants.Marker, Access.TheVariants.Ts, Event.Event}
use Rattle.rams_model.specs.declared.{Held.Held, LiveNote.LiveNote, LiveNote.TheVariants.Took, LiveNote.TheVariants.Restart}
use Rattle.rams_model.specs.declared.Event.TheVariants.{Live, Feedback, Tick}
use Rattle.rams_model.specs.Formats.{Packet, fields_of, header, spelling, stripped, retransmission, packet_at, framed}
use Rattle.rams_model.specs.Packets.{Arrival, held_as, is_access_point, live_note, stream_of}
use Rattle.rams_model.specs.Service.{Settings, Heard, live, dropped, feedback, unframed, tick, arrival, heard_live, heard_of, began, History, arrivals, stream, hold, datagram, history_of}
use Rattle.rams_model.specs.Laws.{source}
use Rattle.rams_model.proofs.Induction.{arrivals_of_event}
use Rattle.rams_model.proofs.PlainPackets.{below_at}
use Rattle.rams_model.proofs.Rising.{end_of}
use Rattle.rams_model.proofs.RtpPackets.{spelled_so, read_has_no_fault}
use Rattle.service_laws.specs.book_laws.{IsMoment}
use Rattle.service_laws.proofs.book_laws.CameBefore.{all_of, came_in_time, IsNew, old_or_new, WasRead, ReadSo, live_read, not_live, again}
use Rattle.service_laws.proofs.book_laws.Members.{is_first}
use Rattle.service_laws.proofs.book_laws.SentSources.{held_of_source, source_after}
use Rattle.service_laws.specs.byte_laws.{number16, number32, MayStart, CameAs, HasBytes}
use Rattle.service_laws.proofs.byte_laws.Flags.{flags_where}
use Rattle.service_laws.proofs.byte_laws.Low.{IsLow, IsHigh, high_present, live_note_low}
use Rattle.service_laws.proofs.byte_laws.Rising.{all_rises}

-- ---- each packet in time

-- a packet was read of one of these events, and taken under a number with its 16 bits
record IsTaken (c : Channel) (events : List Event) (h : Held) : Type 0 where
  bytes : List ℕ
  came : Contains events (Live bytes)
  small : All (λ b. b < 256) bytes
  short : length bytes ≤ 1470
  packet : Packet
  is_read : packet_at bytes ≡ Ok packet
  media : packet.ssrc ≡ c.ssrc
  kind : packet.payload_type ≡ c.pt
  low : h.n % 65536 ≡ packet.sequence
  high : 65536 ≤ h.n
  is_it : h ≡ held_as h.n (arrival c packet)

earlier : (c : Channel) (event : Event) (events : List Event) (h : Held) → IsTaken c events h → IsTaken c (event ∷ events) h
earlier c event events h t = record {
  bytes = t.bytes;
  came = Contains-append_right (event ∷ []) events (Live t.bytes) t.came;
  small = t.small;
  short = t.short;
  packet = t.packet;
  is_read = t.is_read;
  media = t.media;
  kind = t.kind;
  low = t.low;
  high = t.high;
  is_it = t.is_it;
}

-- what a note takes has the number that the note names
taken_under : (c : Channel) (events : List Event) (bytes : List ℕ) (a : Arrival) (m : ℕ) (h : Held) → WasRead c bytes a → All (λ b. b < 256) bytes → m % 65536 ≡ a.sequence
    → 65536 ≤ m → held_as m a ≡ h → IsTaken c (Live bytes ∷ events) h
taken_under c events bytes a m h r small low high e = subst (IsTaken c (Live bytes ∷ events)) e (record {
  bytes = bytes;
  came = is_first (Live bytes) events;
  small = small;
  short = r.short;
  packet = r.packet;
  is_read = r.is_read;
  media = r.media;
  kind = r.kind;
  low = low ∙ ap (λ (x : Arrival). x.sequence) r.is_it;
  high = high;
  is_it = ap (held_as m) r.is_it;
})

new_taken : (c : Channel) (events : List Event) (bytes : List ℕ) (a : Arrival) (n : LiveNote) (h : Held) → WasRead c bytes a → All (λ b. b < 256) bytes → IsLow a.sequence n
    → IsNew a n h → IsTaken c (Live bytes ∷ events) h
new_taken c events bytes a (Took m) h r small low e = taken_under c events bytes a m h r small low.0 low.1 e
new_taken c events bytes a (Restart m) h r small low e = taken_under c events bytes a m h r small low.0 low.1 e
new_taken c events bytes a n h r small low e = absurd e

heard_taken : (s : Settings) (events : List Event) (bytes : List ℕ) (heard : Heard) (h : Held) → ReadSo s.channel bytes heard → All (λ b. b < 256) bytes
    → ((k : Held) → Contains (all_of (stream s (history_of s events))) k → IsTaken s.channel events k)
    → Contains (all_of (stream_of s.channel.window (arrivals (began heard ∷ history_of s events)))) h → IsTaken s.channel (Live bytes ∷ events) h
unfolding arrivals stream_of
heard_taken s events bytes (live a) h r small old has =
    let came = arrivals (history_of s events) in
    let st = stream_of s.channel.window came in
    let few : a.sequence < 65536 = subst (λ (x : Arrival). x.sequence < 65536) (sym r.is_it) (spelled_so bytes r.packet (below_at bytes small) r.is_read).0.sequence in
    let low = live_note_low s.channel.window st a.sequence few (end_of 0 st.ended st.present (all_rises s.channel.window came)) (high_present st.ended st.present (λ k d. (old k d).high)) in
    ⊎_elim (λ o. earlier s.channel (Live bytes) events h (old h o)) (λ e. new_taken s.channel events bytes a (live_note s.channel.window st a.sequence) h r small low e)
    (old_or_new st a (live_note s.channel.window st a.sequence) h has)
heard_taken s events bytes (dropped n) h r small old has = earlier s.channel (Live bytes) events h (old h has)
heard_taken s events bytes (feedback client messages) h r small old has = earlier s.channel (Live bytes) events h (old h has)
heard_taken s events bytes (unframed client fault) h r small old has = earlier s.channel (Live bytes) events h (old h has)
heard_taken s events bytes tick h r small old has = earlier s.channel (Live bytes) events h (old h has)

event_taken : (s : Settings) (event : Event) (events : List Event) (h : Held) → HasBytes event
    → ((k : Held) → Contains (all_of (stream s (history_of s events))) k → IsTaken s.channel events k)
    → Contains (all_of (stream_of s.channel.window (arrivals (began (heard_of s.channel event) ∷ history_of s events)))) h → IsTaken s.channel (event ∷ events) h
unfolding heard_of arrivals
event_taken s (Live bytes) events h small old has = heard_taken s events bytes (heard_live s.channel bytes) h (live_read s.channel bytes) small old has
event_taken s (Feedback client bytes) events h small old has =
    earlier s.channel (Feedback client bytes) events h
    (old h (subst (λ (came : List Arrival). Contains (all_of (stream_of s.channel.window came)) h) (not_live client (framed bytes) (history_of s events)) has))
event_taken s Tick events h small old has = earlier s.channel Tick events h (old h has)

each_taken : (s : Settings) (events : List Event) → AllByRecursion HasBytes events → (h : Held) → Contains (all_of (stream s (history_of s events))) h
    → IsTaken s.channel events h
unfolding history_of stream_of arrivals
each_taken s [] small h has = absurd (omega arith)
each_taken s (event ∷ events) small h has =
    event_taken s event events h small.0 (each_taken s events small.1)
    (subst (λ (came : List Arrival). Contains (all_of (stream_of s.channel.window came)) h) (arrivals_of_event s (heard_of s.channel event) (history_of s events)) has)

-- each number of the present start is at least 65,536
pub high_before : (s : Settings) (events : List Event) → AllByRecursion HasBytes events → IsHigh (stream s (history_of s events)).present
high_before s events small =
    let st = stream s (history_of s events) in high_present st.ended st.present (λ k d. (each_taken s events small k d).high)

-- ---- what is read off the bytes

pub at_2 : (bytes : List ℕ) → from_be_bytes w16 (drop 2 bytes) ≡ number16 2 bytes
at_2 bytes = omega (arith, get_or-drop 2 bytes 0 0, get_or-drop 2 bytes 1 0)

at_4 : (bytes : List ℕ) → from_be_bytes w32 (drop 4 bytes) ≡ number32 4 bytes
at_4 bytes = omega (arith, get_or-drop 4 bytes 0 0, get_or-drop 4 bytes 1 0, get_or-drop 4 bytes 2 0, get_or-drop 4 bytes 3 0)

pub at_8 : (bytes : List ℕ) → from_be_bytes w32 (drop 8 bytes) ≡ number32 8 bytes
at_8 bytes = omega (arith, get_or-drop 8 bytes 0 0, get_or-drop 8 bytes 1 0, get_or-drop 8 bytes 2 0, get_or-drop 8 bytes 3 0)

-- the marker is the top bit of a byte
marker_is : (b : ℕ) → b < 256 → IsTrue (eqb (b / 128) 1) ↔ (128 ≤ b)
marker_is b small = (λ t. let e = eqb-true (b / 128) 1 t in omega (arith, e), λ le. let e : b / 128 ≡ 1 = omega (arith, small, le) in eq-eqb (b / 128) 1 e)

may_start : (access : Access) (bytes : List ℕ) (p : Packet) → ((i : ℕ) → get_or bytes i 0 < 256) → fields_of bytes ≡ p → IsTrue (is_access_point access p) ↔ MayStart access bytes p
unfolding fields_of
may_start Marker bytes p small e = subst (λ (q : Packet). IsTrue q.marker ↔ (128 ≤ slice_index bytes 1)) e (marker_is (slice_index bytes 1) (small 1))
may_start Ts bytes p small e = flags_where p.payload

-- two bytes more in front of the payload make the packet two bytes longer
two_longer : (p : Packet) (payload_type number : ℕ) → length (retransmission p payload_type number) ≡ length (stripped p) + 2
unfolding spelling header
two_longer p payload_type number =
    let again = to_be_bytes w16 p.sequence ++ p.payload in
    let a = length-append (p.csrc ++ p.extension ++ again) [] in
    let b = length-append (p.csrc ++ p.extension) again in
    let c = length-append (p.csrc ++ p.extension ++ p.payload) [] in
    let d = length-append (p.csrc ++ p.extension) p.payload in
    omega (arith, a, b, c, d)

came_as : (s : Settings) (events : List Event) (h : Held) → IsTaken s.channel events h → CameAs s events h
unfolding fields_of datagram
came_as s events h t =
    let small = below_at t.bytes t.small in
    let read = read_has_no_fault t.bytes t.packet t.is_read in
    record {
      bytes = t.bytes;
      came = t.came;
      short = t.short;
      packet = t.packet;
      is_read = t.is_read;
      version = read.0.version;
      kind = ap (λ (p : Packet). p.payload_type) read.1 ∙ t.kind;
      media = sym (at_8 t.bytes) ∙ (ap (λ (p : Packet). p.ssrc) read.1 ∙ t.media);
      low = t.low ∙ (sym (ap (λ (p : Packet). p.sequence) read.1) ∙ at_2 t.bytes);
      high = t.high;
      timestamp = ap (λ (x : Held). x.ts) t.is_it ∙ (sym (ap (λ (p : Packet). p.timestamp) read.1) ∙ at_4 t.bytes);
      access = subst (λ (b : Bool). IsTrue b ↔ MayStart s.channel.access t.bytes t.packet) (sym (ap (λ (x : Held). x.access) t.is_it)) (may_start s.channel.access t.bytes t.packet small read.1);
      wire = λ client n sequence. wire_is sequence;
    }
  where
    wire_is : (sequence : ℕ) → h.wire ≡ length (datagram s (order.Rtx 0 0 sequence h.packet)) + 28
    wire_is sequence =
        let sent : datagram s (order.Rtx 0 0 sequence h.packet) ≡ retransmission t.packet s.channel.rtx sequence =
        ap (λ (x : Held). datagram s (order.Rtx 0 0 sequence x.packet)) t.is_it ∙ again t.bytes t.packet s.channel.rtx sequence t.small t.is_read in
        let size = two_longer t.packet s.channel.rtx sequence in
        let wire : h.wire ≡ length (stripped t.packet) + 30 = ap (λ (x : Held). x.wire) t.is_it in
        let long = ap (λ (l : List ℕ). length l) sent in
        omega (arith, wire, long, size)

pub packets_came : (s : Settings) (events : List Event) → AllByRecursion HasBytes events → (h : Held) → Contains (source s (history_of s events)) h → CameAs s events h
packets_came s events small h c = came_as s events h (each_taken s events small h (came_in_time s (history_of s events) h c))

pub held_came : (s : Settings) (history : History) (m : IsMoment s history) → AllByRecursion HasBytes m.events → (h : Held) → Contains (hold s history) h → CameAs s m.events h
held_came s history m small h c =
    packets_came s m.events small h
    (subst (λ (x : History). Contains (source s x) h) (sym m.splits) (source_after s m.later history h (held_of_source s history h c)))
