-- Each live packet's note says what became of it.
use Rattle.std.proofs.Common.{◌≡◌, ℕ, ◌<◌, ◌≤◌, ◌%◌, Bool, true, false, cond, not, List, [], ◌∷◌, length, Option, option_map, refl, ap, sym, ◌∙◌, subst, arith, eqb, ltb}
use Rattle.std.specs.Prelude.{Result, Ok, Err, All, slice_index}
use Rattle.std.specs.List.{AllByRecursion}
use Rattle.std.proofs.lemmas.Bool.{cond_both, not-true, not-false, eqb-true, eqb-false, ltb-true, ltb-false, lt-ltb, le-ltb, eq-eqb, ne_eqb}
use Rattle.rams_model.specs.declared.{Channel.Channel, Event.Event, RtpFault.RtpFault, LiveNote.LiveNote}
use Rattle.rams_model.specs.declared.Event.TheVariants.{Live, Feedback, Tick}
use Rattle.rams_model.specs.declared.LiveNote.TheVariants.{Late, ForeignSsrc, ForeignType, TooBig, Bad}
use Rattle.rams_model.specs.declared.Note.TheVariants as note
use Rattle.rams_model.specs.Formats.{Packet, fields_of, packet_at, framed}
use Rattle.rams_model.specs.Packets.{following, Arrival, Stream, live_note, stream_of}
use Rattle.rams_model.specs.Service.{Answered, answered, Settings, Heard, live, dropped, feedback, unframed, tick, arrival, heard_packet, heard_live, heard_of, began, arrivals, stream, after_hearing, order_of, newest_notes, newest_orders, newest_answer, Entry, Book, IsLawful, events_of, history_of, answer}
use Rattle.rams_model.proofs.Induction.{arrivals_of_event}
use Rattle.rams_model.proofs.PlainPackets.{below_at}
use Rattle.rams_model.proofs.Rising.{end_of}
use Rattle.service_laws.proofs.book_laws.CameBefore.{not_live}
use Rattle.service_laws.specs.byte_laws.{number16, number32, HasBytes, IsRtp, IsOfChannel, with_note, with_answer, numbers_taken, jumped_by, jumped_after, last_jump, NumbersSo, BecameSo, IsLiveAnswer}
use Rattle.service_laws.proofs.byte_laws.Packets.{at_2, at_8, high_before}
use Rattle.service_laws.proofs.byte_laws.Rising.{all_rises}
use Rattle.service_laws.proofs.byte_laws.RtpBytes.{ReadsSo, reads_so, rtp_reads, no_rtp_reads}
use Rattle.service_laws.proofs.byte_laws.Starts.{SameNumbers, same_after, kept_after, live_note_so, only_live_note}

-- ---- what is heard

-- the note of a packet that is dropped without a number
abbrev IsDropped : LiveNote → Type 0
IsDropped TooBig = Unit {0}
IsDropped (Bad fault) = Unit {0}
IsDropped ForeignSsrc = Unit {0}
IsDropped ForeignType = Unit {0}
IsDropped _ = ⊥

record OfChannel (c : Channel) (bytes : List ℕ) (a : Arrival) : Type 0 where
  is : IsOfChannel c bytes
  sequence : a.sequence ≡ number16 2 bytes

-- what is heard of a live packet is so, whatever came before
abbrev HeardSo : Settings → List ℕ → Heard → Type 0
HeardSo s bytes (live a) = OfChannel s.channel bytes a
HeardSo s bytes (dropped n) = IsDropped n × ((book : Book) → BecameSo s book bytes n)
HeardSo s bytes _ = ⊥

packet_heard : (s : Settings) (bytes : List ℕ) (r : Result Packet RtpFault) → length bytes ≤ 1470 → ReadsSo bytes r → HeardSo s bytes (heard_packet s.channel r)
unfolding fields_of
packet_heard s bytes (Err fault) short is = (tt, λ book. (short, is))
packet_heard s bytes (Ok p) short is =
    let c = s.channel in
    let ssrc : p.ssrc ≡ number32 8 bytes = sym (ap (λ (q : Packet). q.ssrc) is.1) ∙ at_8 bytes in
    let kind : p.payload_type ≡ slice_index bytes 1 % 128 = sym (ap (λ (q : Packet). q.payload_type) is.1) in
    cond_both (not (eqb p.ssrc c.ssrc)) (dropped ForeignSsrc) (cond (not (eqb p.payload_type c.pt)) (dropped ForeignType) (live (arrival c p))) (HeardSo s bytes)
    (λ t. let other = eqb-false p.ssrc c.ssrc (not-true (eqb p.ssrc c.ssrc) t) in (tt, λ book. (short, is.0, λ e. other (ssrc ∙ e))))
    (λ f. let same = sym ssrc ∙ eqb-true p.ssrc c.ssrc (not-false (eqb p.ssrc c.ssrc) f) in
    cond_both (not (eqb p.payload_type c.pt)) (dropped ForeignType) (live (arrival c p)) (HeardSo s bytes)
    (λ t. let other = eqb-false p.payload_type c.pt (not-true (eqb p.payload_type c.pt) t) in (tt, λ book. (short, is.0, same, λ e. other (kind ∙ e))))
    (λ g. record {
      is = record { short = short; rtp = is.0; media = same; kind = sym kind ∙ eqb-true p.payload_type c.pt (not-false (eqb p.payload_type c.pt) g) };
      sequence = sym (ap (λ (q : Packet). q.sequence) is.1) ∙ at_2 bytes;
    }))

live_heard : (s : Settings) (bytes : List ℕ) → HeardSo s bytes (heard_live s.channel bytes)
live_heard s bytes =
    cond_both (ltb 1470 (length bytes)) (dropped TooBig) (heard_packet s.channel (packet_at bytes)) (HeardSo s bytes)
    (λ t. let gt = ltb-true 1470 (length bytes) t in (tt, λ book. gt)) (λ f. packet_heard s bytes (packet_at bytes) (ltb-false 1470 (length bytes) f) (reads_so bytes))

-- ---- what stands before it

-- the notes of a book tell the numbers that its channel has, and the one that is kept
record IsTold (book : Book) (st : Stream) : Type 0 where
  same : SameNumbers (numbers_taken book) st.present
  kept : st.kept ≡ option_map following (last_jump book)

abbrev stream_at : Settings → List Event → Stream
stream_at s events = stream s (history_of s events)

-- the note of what is heard of a live packet
abbrev note_heard : Settings → Stream → Heard → LiveNote
note_heard s st (live a) = live_note s.channel.window st a.sequence
note_heard s st (dropped n) = n
note_heard s st _ = Late

answer_is : (s : Settings) (bytes : List ℕ) (heard : Heard) (events : List Event) → HeardSo s bytes heard
    → newest_answer s (after_hearing s heard (history_of s events)) ≡ answered (note.Live (note_heard s (stream_at s events) heard) ∷ []) []
unfolding after_hearing newest_notes newest_orders order_of
answer_is s bytes (live a) events h = refl
answer_is s bytes (dropped n) events h = refl
answer_is s bytes (feedback client messages) events h = absurd h
answer_is s bytes (unframed client fault) events h = absurd h
answer_is s bytes tick events h = absurd h

live_answer : (s : Settings) (bytes : List ℕ) (events : List Event)
    → answer s events (Live bytes) ≡ answered (note.Live (note_heard s (stream_at s events) (heard_live s.channel bytes)) ∷ []) []
unfolding history_of heard_of
live_answer s bytes events = answer_is s bytes (heard_live s.channel bytes) events (live_heard s bytes)

-- one packet more
told_packet : (s : Settings) (bytes : List ℕ) (heard : Heard) (events : List Event) (numbers : List ℕ) (jumped : Option ℕ) → HeardSo s bytes heard
    → SameNumbers numbers (stream_at s events).present → (stream_at s events).kept ≡ option_map following jumped
    → let n = note_heard s (stream_at s events) heard in let later = stream_of s.channel.window (arrivals (began heard ∷ history_of s events)) in
    SameNumbers (with_note n numbers) later.present × (later.kept ≡ option_map following (jumped_by n (number16 2 bytes) jumped))
unfolding arrivals stream_of
told_packet s bytes (live a) events numbers jumped h same kept =
    let st = stream_at s events in
    let n = live_note s.channel.window st a.sequence in (
      same_after st a n numbers same,
      kept_after st a n jumped kept ∙ ap (λ (q : ℕ). option_map following (jumped_by n q jumped)) h.sequence,
    )
told_packet s bytes (dropped TooBig) events numbers jumped h same kept = (same, kept)
told_packet s bytes (dropped (Bad fault)) events numbers jumped h same kept = (same, kept)
told_packet s bytes (dropped ForeignSsrc) events numbers jumped h same kept = (same, kept)
told_packet s bytes (dropped ForeignType) events numbers jumped h same kept = (same, kept)
told_packet s bytes (dropped n) events numbers jumped h same kept = absurd h.0
told_packet s bytes (feedback client messages) events numbers jumped h same kept = absurd h
told_packet s bytes (unframed client fault) events numbers jumped h same kept = absurd h
told_packet s bytes tick events numbers jumped h same kept = absurd h

-- one event more, with its answer
told_event : (s : Settings) (event : Event) (events : List Event) (numbers : List ℕ) (jumped : Option ℕ) → SameNumbers numbers (stream_at s events).present
    → (stream_at s events).kept ≡ option_map following jumped
    → let later = stream_of s.channel.window (arrivals (began (heard_of s.channel event) ∷ history_of s events)) in
    SameNumbers (with_answer event (answer s events event).notes numbers) later.present × (later.kept ≡ option_map following (jumped_after event (answer s events event).notes jumped))
unfolding heard_of arrivals
told_event s (Live bytes) events numbers jumped same kept =
    let later = stream_of s.channel.window (arrivals (began (heard_live s.channel bytes) ∷ history_of s events)) in
    subst (λ (a : Answered). SameNumbers (with_answer (Live bytes) a.notes numbers) later.present × (later.kept ≡ option_map following (jumped_after (Live bytes) a.notes jumped)))
    (sym (live_answer s bytes events)) (told_packet s bytes (heard_live s.channel bytes) events numbers jumped (live_heard s bytes) same kept)
told_event s (Feedback client bytes) events numbers jumped same kept =
    subst (λ (came : List Arrival). SameNumbers numbers (stream_of s.channel.window came).present × ((stream_of s.channel.window came).kept ≡ option_map following jumped))
    (sym (not_live client (framed bytes) (history_of s events))) (same, kept)
told_event s Tick events numbers jumped same kept = (same, kept)

told_by_book : (s : Settings) (book : Book) → IsLawful s book → IsTold book (stream_at s (events_of book))
unfolding numbers_taken last_jump history_of stream_of arrivals
told_by_book s [] l = record { same = λ m. refl; kept = refl }
told_by_book s (e ∷ book) l =
    let events = events_of book in
    let rest = told_by_book s book l.1 in
    let both = told_event s e.event events (numbers_taken book) (last_jump book) rest.same rest.kept in
    let after = sym (arrivals_of_event s (heard_of s.channel e.event) (history_of s events)) in
    let now = subst (λ (a : Answered). SameNumbers (with_answer e.event a.notes (numbers_taken book)) (stream_of s.channel.window (arrivals (began (heard_of s.channel e.event) ∷ history_of s events))).present
    × ((stream_of s.channel.window (arrivals (began (heard_of s.channel e.event) ∷ history_of s events))).kept ≡ option_map following (jumped_after e.event a.notes (last_jump book)))) (sym l.0) both in
    let at = subst (λ (came : List Arrival). SameNumbers (with_answer e.event e.answer.notes (numbers_taken book)) (stream_of s.channel.window came).present
    × ((stream_of s.channel.window came).kept ≡ option_map following (jumped_after e.event e.answer.notes (last_jump book)))) after now in
    record { same = at.0; kept = at.1 }

-- ---- each live packet

numbers_so : (s : Settings) (book : Book) (bytes : List ℕ) (n : LiveNote) → IsOfChannel s.channel bytes → NumbersSo s.channel.window (numbers_taken book) (last_jump book) (number16 2 bytes) n
    → BecameSo s book bytes n
numbers_so s book bytes TooBig is so = absurd so
numbers_so s book bytes (Bad fault) is so = absurd so
numbers_so s book bytes ForeignSsrc is so = absurd so
numbers_so s book bytes ForeignType is so = absurd so
numbers_so s book bytes n is so = (is, so)

sixteen_bits : (bytes : List ℕ) → All (λ b. b < 256) bytes → number16 2 bytes < 65536
sixteen_bits bytes fits = let low = below_at bytes fits 2 in let lower = below_at bytes fits 3 in omega (arith, low, lower)

heard_became : (s : Settings) (book : Book) (bytes : List ℕ) (heard : Heard) → IsLawful s book → AllByRecursion HasBytes (events_of book) → All (λ b. b < 256) bytes → HeardSo s bytes heard
    → BecameSo s book bytes (note_heard s (stream_at s (events_of book)) heard)
heard_became s book bytes (live a) l small fits h =
    let st = stream_at s (events_of book) in
    let told = told_by_book s book l in
    let few = sixteen_bits bytes fits in
    numbers_so s book bytes (live_note s.channel.window st a.sequence) h.is
    (subst (λ (q : ℕ). NumbersSo s.channel.window (numbers_taken book) (last_jump book) (number16 2 bytes) (live_note s.channel.window st q)) (sym h.sequence)
    (live_note_so s.channel.window st (numbers_taken book) (last_jump book) (number16 2 bytes) few
    (end_of 0 st.ended st.present (all_rises s.channel.window (arrivals (history_of s (events_of book))))) (high_before s (events_of book) small) told.same told.kept))
heard_became s book bytes (dropped n) l small fits h = h.1 book
heard_became s book bytes (feedback client messages) l small fits h = absurd h
heard_became s book bytes (unframed client fault) l small fits h = absurd h
heard_became s book bytes tick l small fits h = absurd h

-- ---- no other note is right

short_heard : (c : Channel) (bytes : List ℕ) → length bytes ≤ 1470 → heard_live c bytes ≡ heard_packet c (packet_at bytes)
short_heard c bytes short = ap (λ (b : Bool). cond b (dropped TooBig) (heard_packet c (packet_at bytes))) (le-ltb 1470 (length bytes) short)

-- what is heard of an RTP packet, by two tests
abbrev by_tests : Channel → List ℕ → Bool → Bool → Heard
by_tests c bytes ssrc kind = cond (not ssrc) (dropped ForeignSsrc) (cond (not kind) (dropped ForeignType) (live (arrival c (fields_of bytes))))

rtp_heard : (c : Channel) (bytes : List ℕ) (ssrc kind : Bool) → length bytes ≤ 1470 → IsRtp bytes → eqb (number32 8 bytes) c.ssrc ≡ ssrc → eqb (slice_index bytes 1 % 128) c.pt ≡ kind
    → heard_live c bytes ≡ by_tests c bytes ssrc kind
unfolding fields_of
rtp_heard c bytes ssrc kind short is e f =
    short_heard c bytes short
    ∙ (ap (heard_packet c) (rtp_reads bytes is)
    ∙ (ap (λ (x : ℕ). by_tests c bytes (eqb x c.ssrc) (eqb (slice_index bytes 1 % 128) c.pt)) (at_8 bytes)
    ∙ (ap (λ (b : Bool). by_tests c bytes b (eqb (slice_index bytes 1 % 128) c.pt)) e ∙ ap (by_tests c bytes ssrc) f)))

sequence_is : (c : Channel) (bytes : List ℕ) → (arrival c (fields_of bytes)).sequence ≡ number16 2 bytes
unfolding fields_of
sequence_is c bytes = at_2 bytes

-- what its number says is the only thing
abbrev OnlyNote : Settings → Book → List ℕ → Stream → Type 0
OnlyNote s book bytes st =
    (other : LiveNote) → NumbersSo s.channel.window (numbers_taken book) (last_jump book) (number16 2 bytes) other → live_note s.channel.window st (number16 2 bytes) ≡ other

only_heard : (s : Settings) (book : Book) (bytes : List ℕ) (st : Stream) → OnlyNote s book bytes st → (other : LiveNote) → BecameSo s book bytes other
    → note_heard s st (heard_live s.channel bytes) ≡ other
only_heard s book bytes st only TooBig is =
    ap (note_heard s st) (ap (λ (b : Bool). cond b (dropped TooBig) (heard_packet s.channel (packet_at bytes))) (lt-ltb 1470 (length bytes) is))
only_heard s book bytes st only (Bad fault) is =
    ap (note_heard s st) (short_heard s.channel bytes is.0 ∙ ap (heard_packet s.channel) (no_rtp_reads bytes fault is.1))
only_heard s book bytes st only ForeignSsrc is =
    ap (note_heard s st) (rtp_heard s.channel bytes false (eqb (slice_index bytes 1 % 128) s.channel.pt) is.0 is.1 (ne_eqb (number32 8 bytes) s.channel.ssrc is.2) refl)
only_heard s book bytes st only ForeignType is =
    ap (note_heard s st)
    (rtp_heard s.channel bytes true false is.0 is.1 (eq-eqb (number32 8 bytes) s.channel.ssrc is.2) (ne_eqb (slice_index bytes 1 % 128) s.channel.pt is.3))
only_heard s book bytes st only other is =
    let ours = is.0 in
    ap (note_heard s st)
    (rtp_heard s.channel bytes true true ours.short ours.rtp (eq-eqb (number32 8 bytes) s.channel.ssrc ours.media) (eq-eqb (slice_index bytes 1 % 128) s.channel.pt ours.kind))
    ∙ (ap (live_note s.channel.window st) (sequence_is s.channel bytes) ∙ only other is.1)

only_number : (s : Settings) (book : Book) (bytes : List ℕ) → IsLawful s book → AllByRecursion HasBytes (events_of book) → All (λ b. b < 256) bytes
    → OnlyNote s book bytes (stream_at s (events_of book))
only_number s book bytes l small fits =
    let st = stream_at s (events_of book) in
    let told = told_by_book s book l in
    only_live_note s.channel.window st (numbers_taken book) (last_jump book) (number16 2 bytes) (sixteen_bits bytes fits)
    (end_of 0 st.ended st.present (all_rises s.channel.window (arrivals (history_of s (events_of book))))) (high_before s (events_of book) small) told.same told.kept

pub live_answered : (s : Settings) (e : Entry) (book : Book) (bytes : List ℕ) → IsLawful s (e ∷ book) → AllByRecursion HasBytes (e.event ∷ events_of book) → e.event ≡ Live bytes
    → IsLiveAnswer s book bytes e.answer
live_answered s e book bytes l small is =
    let heard = heard_live s.channel bytes in
    let fits : HasBytes (Live bytes) = subst HasBytes is small.0 in
    record {
      became = note_heard s (stream_at s (events_of book)) heard;
      alone = l.0 ∙ ap (answer s (events_of book)) is ∙ live_answer s bytes (events_of book);
      so = heard_became s book bytes heard l.1 small.1 fits (live_heard s bytes);
      only = λ other so. sym (only_heard s book bytes (stream_at s (events_of book)) (only_number s book bytes l.1 small.1 fits) other so);
    }
