-- The packets of the source came in live events, and the orders for packets are their retransmissions.
use Rattle.std.proofs.Common.{◌≡◌, ℕ, ◌<◌, ◌≤◌, true, cond, not, ◌⊎◌, inl, inr, ⊎_elim, List, [], ◌∷◌, ◌++◌, length, Option, Some, None, refl, ap, sym, ◌∙◌, subst, arith, eqb, ltb}
use Rattle.std.specs.Prelude.{filter_map, Result, Ok, Err, filter, option_map, option_to_list, All, Contains}
use Rattle.std.specs.List.{cons_option}
use Rattle.std.proofs.lemmas.Bool.{cond_both, not-false, eqb-true, ltb-false, true≢false}
use Rattle.std.proofs.lemmas.List.Elements.{All-nil, All-cons, Contains-append_left, Contains-append_right, Contains-append_cases, Contains-push_cases}
use Rattle.rams_model.specs.declared.{Order.Order, Channel.Channel, Event.Event, FrameFault.FrameFault, RtpFault.RtpFault, Held.Held}
use Rattle.rams_model.specs.declared.{Info.Info, Cause.Cause, LiveNote.LiveNote, Note.Note}
use Rattle.rams_model.specs.declared.Order.TheVariants as order
use Rattle.rams_model.specs.declared.Event.TheVariants.{Live, Feedback, Tick}
use Rattle.rams_model.specs.declared.LiveNote.TheVariants.{Took, Restart, TooBig, ForeignSsrc, ForeignType}
use Rattle.rams_model.specs.declared.Note.TheVariants as note
use Rattle.rams_model.specs.Service.{Settings, Heard, live, dropped, feedback, unframed, tick, arrival, heard_packet, heard_live, heard_feedback, heard_of, began, told, noted, History, arrivals, stream, hold, Burst, open_burst, end_info, info_order, packet_order, again_order, update_order, end_order, order_of, newest_notes, newest_orders, newest_answer, sent_again, datagram, after_hearing, history_of, answer, Entry, Book, IsLawful, events_of}
use Rattle.rams_model.specs.Formats.{Packet, stripped, retransmission, packet_at, IsPacket, Framed, framed}
use Rattle.rams_model.specs.Packets.{Arrival, Stream, held_as, with_packet, awaited, live_note, stream_after, stream_of}
use Rattle.rams_model.specs.Packets.Source as sources
use Rattle.rams_model.specs.Laws.{source, NoneIs, is_event}
use Rattle.rams_model.proofs.PlainPackets.{below_at}
use Rattle.rams_model.proofs.RtpPackets.{spelled_so, read_so}
use Rattle.service_laws.specs.book_laws.{IsTakenAs, Retransmits, IsOfTheSource, Sent, note_sends, order_sends}
use Rattle.rams_model.proofs.Legal.{in_tick, is_tick, Allows, IsLegal}
use Rattle.rams_model.proofs.Legality.{legal_history, in_tick_from_runs}
use Rattle.rams_model.proofs.Induction.{arrivals_of_event}
use Rattle.rams_model.proofs.Adding.{adds_hearing}
use Rattle.service_laws.proofs.book_laws.Members.{of_filter, of_with}
use Rattle.service_laws.proofs.book_laws.SentSources.{held_of_source}

-- ---- where packets come from

-- all that came in time
abbrev pub all_of : Stream → List Held
all_of st = st.ended ++ st.present

pub came_in_time : (s : Settings) (history : History) (h : Held) → Contains (source s history) h → Contains (all_of (stream s history)) h
unfolding sources.source
came_in_time s history h c =
    let st = stream s history in
    let part = filter (λ (x : Held). ltb x.n (awaited s.channel.window st.present)) st.present in
    ⊎_elim (λ e. Contains-append_left st.ended st.present h e)
    (λ p. Contains-append_right st.ended st.present h (of_filter (λ x. ltb x.n (awaited s.channel.window st.present)) st.present h p)) (Contains-append_cases st.ended part h c)

-- the packet that an arrival with this note adds
abbrev pub IsNew : Arrival → LiveNote → Held → Type 0
IsNew a (Took n) h = held_as n a ≡ h
IsNew a (Restart n) h = held_as n a ≡ h
IsNew a _ h = ⊥

pub old_or_new : (st : Stream) (a : Arrival) (n : LiveNote) (h : Held) → Contains (all_of (stream_after st a n)) h → Contains (all_of st) h ⊎ IsNew a n h
old_or_new st a (Took n) h c =
    ⊎_elim (λ e. inl (Contains-append_left st.ended st.present h e))
    (λ p. ⊎_elim (λ o. inl (Contains-append_right st.ended st.present h o)) (λ e. inr e) (of_with (held_as n a) st.present h p))
    (Contains-append_cases st.ended (with_packet (held_as n a) st.present) h c)
old_or_new st a (Restart n) h c = Contains-push_cases (all_of st) (held_as n a) h c
old_or_new st a n h c = inl c

-- an entry of the book brought the packet
record CameIn (s : Settings) (book : Book) (h : Held) : Type 0 where
  later : Book
  entry : Entry
  earlier : Book
  splits : book ≡ later ++ entry ∷ earlier
  bytes : List ℕ
  came : entry.event ≡ Live bytes
  packet : Packet
  is_read : packet_at bytes ≡ Ok packet
  took : IsTakenAs h.n entry.answer.notes
  is_it : h.packet ≡ stripped packet

came_earlier : (s : Settings) (e : Entry) (book : Book) (h : Held) → CameIn s book h → CameIn s (e ∷ book) h
came_earlier s e book h c = record {
  later = e ∷ c.later;
  entry = c.entry;
  earlier = c.earlier;
  splits = ap (λ (l : Book). e ∷ l) c.splits;
  bytes = c.bytes;
  came = c.came;
  packet = c.packet;
  is_read = c.is_read;
  took = c.took;
  is_it = c.is_it;
}

-- what arrived is told by the items that begin events
same_arrivals : (later history : History) → NoneIs is_event later → arrivals (later ++ history) ≡ arrivals history
unfolding arrivals
same_arrivals [] history none = refl
same_arrivals (began heard ∷ later) history none = absurd (true≢false none.0)
same_arrivals (told client message ∷ later) history none = same_arrivals later history none.1
same_arrivals (noted n p ∷ later) history none = same_arrivals later history none.1

-- a live event's bytes are a packet that passes the tests, of which this is the arrival
pub record WasRead (c : Channel) (bytes : List ℕ) (a : Arrival) : Type 0 where
  pub short : length bytes ≤ 1470
  pub packet : Packet
  pub is_read : packet_at bytes ≡ Ok packet
  pub media : packet.ssrc ≡ c.ssrc
  pub kind : packet.payload_type ≡ c.pt
  pub is_it : a ≡ arrival c packet

-- what is heard, where it is a packet that passes
abbrev pub ReadSo : Channel → List ℕ → Heard → Type 0
ReadSo c bytes (live a) = WasRead c bytes a
ReadSo c bytes _ = Unit {0}

packet_read : (c : Channel) (bytes : List ℕ) (r : Result Packet RtpFault) → length bytes ≤ 1470 → packet_at bytes ≡ r → ReadSo c bytes (heard_packet c r)
packet_read c bytes (Err fault) short e = tt
packet_read c bytes (Ok p) short e =
    cond_both (not (eqb p.ssrc c.ssrc)) (dropped ForeignSsrc) (cond (not (eqb p.payload_type c.pt)) (dropped ForeignType) (live (arrival c p))) (ReadSo c bytes) (λ t. tt)
    (λ f. cond_both (not (eqb p.payload_type c.pt)) (dropped ForeignType) (live (arrival c p)) (ReadSo c bytes) (λ t. tt)
    (λ g. record {
      short = short;
      packet = p;
      is_read = e;
      media = eqb-true p.ssrc c.ssrc (not-false (eqb p.ssrc c.ssrc) f);
      kind = eqb-true p.payload_type c.pt (not-false (eqb p.payload_type c.pt) g);
      is_it = refl;
    }))

pub live_read : (c : Channel) (bytes : List ℕ) → ReadSo c bytes (heard_live c bytes)
live_read c bytes =
    cond_both (ltb 1470 (length bytes)) (dropped TooBig) (heard_packet c (packet_at bytes)) (ReadSo c bytes) (λ t. tt)
    (λ f. packet_read c bytes (packet_at bytes) (ltb-false 1470 (length bytes) f) refl)

-- no packet is heard of a datagram
pub not_live : (client : ℕ) (r : Result (List Framed) FrameFault) (history : History) → arrivals (began (heard_feedback client r) ∷ history) ≡ arrivals history
unfolding arrivals
not_live client (Err fault) history = refl
not_live client (Ok packets) history = refl

is_taken : (n : LiveNote) (m : ℕ) (notes : List Note) → notes ≡ note.Live n ∷ [] → (n ≡ Took m) ⊎ (n ≡ Restart m) → IsTakenAs m notes
is_taken n m notes e w =
    ⊎_elim (λ t. inl (e ∙ ap (λ (x : LiveNote). note.Live x ∷ []) t)) (λ t. inr (e ∙ ap (λ (x : LiveNote). note.Live x ∷ []) t)) w

new_number : (a : Arrival) (n : LiveNote) (h : Held) → IsNew a n h → ((n ≡ Took h.n) ⊎ (n ≡ Restart h.n)) × (h.packet ≡ a.packet)
new_number a (Took m) h e = (inl (ap (λ (x : Held). Took x.n) e), sym (ap (λ (x : Held). x.packet) e))
new_number a (Restart m) h e = (inr (ap (λ (x : Held). Restart x.n) e), sym (ap (λ (x : Held). x.packet) e))
new_number a n h e = absurd e

-- the note of a packet that passes is the one note of its event
one_note : (s : Settings) (a : Arrival) (history : History) → (newest_answer s (after_hearing s (live a) history)).notes ≡ note.Live (live_note s.channel.window (stream s history) a.sequence) ∷ []
unfolding after_hearing newest_notes
one_note s a history = refl

came_live : (s : Settings) (e : Entry) (book : Book) (bytes : List ℕ) (heard : Heard) (h : Held) → e.event ≡ Live bytes → ReadSo s.channel bytes heard
    → e.answer.notes ≡ (newest_answer s (after_hearing s heard (history_of s (events_of book)))).notes
    → Contains (all_of (stream_of s.channel.window (arrivals (began heard ∷ history_of s (events_of book))))) h
    → Contains (all_of (stream s (history_of s (events_of book)))) h ⊎ CameIn s (e ∷ book) h
unfolding arrivals stream_of
came_live s e book bytes (live a) h is r notes c =
    let history = history_of s (events_of book) in
    let st = stream s history in
    let n = live_note s.channel.window st a.sequence in
    ⊎_elim (λ o. inl o)
    (λ new. let number = new_number a n h new in
    inr (record {
      later = [];
      entry = e;
      earlier = book;
      splits = refl;
      bytes = bytes;
      came = is;
      packet = r.packet;
      is_read = r.is_read;
      took = is_taken n h.n e.answer.notes (notes ∙ one_note s a history) number.0;
      is_it = number.1 ∙ ap (λ (x : Arrival). x.packet) r.is_it;
    })) (old_or_new st a n h c)
came_live s e book bytes (dropped n) h is r notes c = inl c
came_live s e book bytes (feedback client messages) h is r notes c = inl c
came_live s e book bytes (unframed client fault) h is r notes c = inl c
came_live s e book bytes tick h is r notes c = inl c

came_by : (s : Settings) (e : Entry) (book : Book) (event : Event) (h : Held) → e.event ≡ event → e.answer ≡ answer s (events_of book) event
    → Contains (all_of (stream_of s.channel.window (arrivals (began (heard_of s.channel event) ∷ history_of s (events_of book))))) h
    → Contains (all_of (stream s (history_of s (events_of book)))) h ⊎ CameIn s (e ∷ book) h
unfolding heard_of arrivals history_of
came_by s e book (Live bytes) h is right c = came_live s e book bytes (heard_live s.channel bytes) h is (live_read s.channel bytes) (ap (λ x. x.notes) right) c
came_by s e book (Feedback client bytes) h is right c =
    let history = history_of s (events_of book) in
    inl (subst (λ (came : List Arrival). Contains (all_of (stream_of s.channel.window came)) h) (not_live client (framed bytes) history) c)
came_by s e book Tick h is right c = inl c

came_in : (s : Settings) (book : Book) (h : Held) → IsLawful s book → Contains (all_of (stream s (history_of s (events_of book)))) h → CameIn s book h
unfolding history_of stream_of arrivals
came_in s [] h l c = absurd (omega arith)
came_in s (e ∷ book) h l c =
    let history = history_of s (events_of book) in
    let heard = heard_of s.channel e.event in
    let before : Contains (all_of (stream_of s.channel.window (arrivals (began heard ∷ history)))) h =
    subst (λ (came : List Arrival). Contains (all_of (stream_of s.channel.window came)) h) (arrivals_of_event s heard history) c in
    ⊎_elim (λ o. came_earlier s e book h (came_in s book h l.1 o)) (λ new. new) (came_by s e book e.event h refl l.0 before)

-- ---- the datagrams of packets

-- a packet is read again as it was stripped
pub again : (bytes : List ℕ) (p : Packet) (payload_type number : ℕ) → All (λ b. b < 256) bytes → packet_at bytes ≡ Ok p
    → sent_again payload_type number (packet_at (stripped p)) ≡ retransmission p payload_type number
again bytes p payload_type number small e =
    let is = (spelled_so bytes p (below_at bytes small) e).0 in
    let plain : IsPacket (record p { padding = [] }) = record {
      payload_type = is.payload_type;
      sequence = is.sequence;
      timestamp = is.timestamp;
      ssrc = is.ssrc;
      csrc = is.csrc;
      extension = is.extension;
      padding = inl refl;
    } in
    ap (sent_again payload_type number) (read_so (record p { padding = [] }) plain)

retransmits : (s : Settings) (book : Book) (client number : ℕ) (h : Held) → CameIn s book h → Retransmits s book h.n number (datagram s (order.Rtx client h.n number h.packet))
unfolding datagram
retransmits s book client number h c = record {
  later = c.later;
  entry = c.entry;
  earlier = c.earlier;
  splits = c.splits;
  bytes = c.bytes;
  came = c.came;
  packet = c.packet;
  is_read = c.is_read;
  took = c.took;
  is_its = λ small. ap (λ (x : List ℕ). sent_again s.channel.rtx number (packet_at x)) c.is_it ∙ again c.bytes c.packet s.channel.rtx number small c.is_read;
}

-- ---- the orders of an answer

-- an order, where there is one, has a property
abbrev IfAny : {A : Type 0} → (A → Type 0) → Option A → Type 0
IfAny P None = Unit {0}
IfAny P (Some x) = P x

in_front : (P : Order → Type 0) (o : Option Order) (later : List Order) → IfAny P o → All P later → All P (option_to_list o ++ later)
in_front P None later i a = a
in_front P (Some x) later i a = All-cons P x later i a

-- in a tick the event that began is a tick
tick_began : (rest history : History) (heard : Heard) → NoneIs is_event rest → in_tick (rest ++ began heard ∷ history) ≡ true → is_tick heard ≡ true
tick_began [] history heard none e = e
tick_began (began other ∷ rest) history heard none e = absurd (true≢false none.0)
tick_began (told client message ∷ rest) history heard none e = absurd (true≢false (sym e))
tick_began (noted n p ∷ rest) history heard none e = tick_began rest history heard none.1 e

tick_arrivals : (heard : Heard) (history : History) → is_tick heard ≡ true → arrivals (began heard ∷ history) ≡ arrivals history
unfolding arrivals
tick_arrivals tick history e = refl
tick_arrivals (live a) history e = absurd (true≢false (sym e))
tick_arrivals (dropped n) history e = refl
tick_arrivals (feedback client messages) history e = refl
tick_arrivals (unframed client fault) history e = refl

-- what is held in a tick came before
held_came : (s : Settings) (book : Book) (rest : History) (heard : Heard) (h : Held) → IsLawful s book → NoneIs is_event rest
    → in_tick (rest ++ began heard ∷ history_of s (events_of book)) ≡ true → Contains (hold s (rest ++ began heard ∷ history_of s (events_of book))) h → CameIn s book h
held_came s book rest heard h lawful none ticks c =
    let history = history_of s (events_of book) in
    let now = rest ++ began heard ∷ history in
    let same : arrivals now ≡ arrivals history =
    same_arrivals rest (began heard ∷ history) none ∙ tick_arrivals heard history (tick_began rest history heard none ticks) in
    came_in s book h lawful
    (subst (λ (came : List Arrival). Contains (all_of (stream_of s.channel.window came)) h) same (came_in_time s now h (held_of_source s now h c)))

packet_is_of_source : (s : Settings) (book : Book) (client n number : ℕ) (packet : Option Held) (h : Held) → packet ≡ Some h → h.n ≡ n → CameIn s book h
    → IfAny (IsOfTheSource s book) (packet_order client n number packet)
packet_is_of_source s book client n number packet h is at c =
    subst (λ (p : Option Held). IfAny (IsOfTheSource s book) (packet_order client n number p)) (sym is)
    (subst (λ (m : ℕ). Retransmits s book m number (datagram s (order.Rtx client m number h.packet))) at (retransmits s book client number h c))

-- an order that tells something sends no packet
abbrev IsTelling : Order → Type 0
IsTelling o = order_sends o ≡ None

tells_info : (k : ℕ) (o : Option Info) → IfAny IsTelling (option_map (info_order k) o)
tells_info k None = tt
tells_info k (Some info) = refl

tells_update : (s : Settings) (k rate join : ℕ) (o : Option Burst) → IfAny IsTelling (update_order s k rate join o)
tells_update s k rate join None = tt
tells_update s k rate join (Some b) = refl

tells_again : (k : ℕ) (o : Option Burst) → IfAny IsTelling (again_order k o)
tells_again k None = tt
tells_again k (Some b) = refl

tells_end : (k : ℕ) (why : Cause) (o : Option Burst) → IfAny IsTelling (end_order k why o)
tells_end k why None = tt
tells_end k why (Some b) = tells_info k (end_info b.last why)

-- so is the order of each note that sends none
tells : (s : Settings) (history : History) (n : Note) (packet : Option Held) → note_sends n ≡ None → IfAny IsTelling (order_of s history n packet)
unfolding order_of
tells s history (note.Burst client n number) packet e = absurd cc
tells s history (note.Repair client n number) packet e = absurd cc
tells s history (note.Accept k first rate join) packet e = refl
tells s history (note.Refuse k code) packet e = refl
tells s history (note.Update k rate join) packet e = tells_update s k rate join (open_burst s k history)
tells s history (note.Again k) packet e = tells_again k (open_burst s k history)
tells s history (note.End k why) packet e = tells_end k why (open_burst s k history)
tells s history n packet e = tt

told_is_fine : (s : Settings) (book : Book) (o : Order) → IsTelling o → IsOfTheSource s book o
told_is_fine s book (order.Rtx client n number packet) e = absurd cc
told_is_fine s book (order.Info client info) e = tt

any_weaker : (P Q : Order → Type 0) → ((o : Order) → P o → Q o) → (o : Option Order) → IfAny P o → IfAny Q o
any_weaker P Q f None i = i
any_weaker P Q f (Some o) i = f o i

order_is_fine : (s : Settings) (book : Book) (rest : History) (heard : Heard) (n : Note) (packet : Option Held) → IsLawful s book → NoneIs is_event rest
    → Allows s (rest ++ began heard ∷ history_of s (events_of book)) n packet
    → IfAny (IsOfTheSource s book) (order_of s (rest ++ began heard ∷ history_of s (events_of book)) n packet)
unfolding order_of
order_is_fine s book rest heard (note.Burst client n number) packet lawful none a =
    let now = rest ++ began heard ∷ history_of s (events_of book) in
    packet_is_of_source s book client n number packet a.h a.packet_is a.h_is
    (held_came s book rest heard a.h lawful none (in_tick_from_runs now a.running) a.held)
order_is_fine s book rest heard (note.Repair client n number) packet lawful none a =
    packet_is_of_source s book client n number packet a.h a.packet_is a.h_is (held_came s book rest heard a.h lawful none a.ticking a.held)
order_is_fine s book rest heard n packet lawful none a =
    let now = rest ++ began heard ∷ history_of s (events_of book) in
    any_weaker IsTelling (IsOfTheSource s book) (told_is_fine s book) (order_of s now n packet) (tells s now n packet refl)

orders_are_fine : (s : Settings) (book : Book) (heard : Heard) (rest : History) (orders : List Order) → IsLawful s book
    → NoneIs is_event rest → IsLegal s (rest ++ began heard ∷ history_of s (events_of book)) → All (IsOfTheSource s book) orders
    → All (IsOfTheSource s book) (newest_orders s (rest ++ began heard ∷ history_of s (events_of book)) orders)
unfolding newest_orders
orders_are_fine s book heard [] orders lawful none l a = a
orders_are_fine s book heard (began other ∷ rest) orders lawful none l a = absurd (true≢false none.0)
orders_are_fine s book heard (told client message ∷ rest) orders lawful none l a = orders_are_fine s book heard rest orders lawful none.1 l a
orders_are_fine s book heard (noted n p ∷ rest) orders lawful none l a =
    let before = rest ++ began heard ∷ history_of s (events_of book) in
    orders_are_fine s book heard rest (option_to_list (order_of s before n p) ++ orders) lawful none.1 l.1
    (in_front (IsOfTheSource s book) (order_of s before n p) orders (order_is_fine s book rest heard n p lawful none.1 l.0) a)

pub answers_are_fine : (s : Settings) (e : Entry) (book : Book) → IsLawful s (e ∷ book) → All (IsOfTheSource s book) e.answer.orders
unfolding history_of
answers_are_fine s e book l =
    let history = history_of s (events_of book) in
    let heard = heard_of s.channel e.event in
    let adds = adds_hearing s heard history in
    let legal : IsLegal s (adds.later ++ began heard ∷ history) = subst (IsLegal s) adds.splits (legal_history s (e.event ∷ events_of book)) in
    let fine : All (IsOfTheSource s book) (newest_orders s (adds.later ++ began heard ∷ history) []) =
    orders_are_fine s book heard adds.later [] l.1 adds.none legal (All-nil (IsOfTheSource s book)) in
    subst (λ x. All (IsOfTheSource s book) x.orders) (sym l.0)
    (subst (λ (h : History). All (IsOfTheSource s book) (newest_orders s h [])) (sym adds.splits) fine)

-- ---- one order for each note that sends a packet

skips : (o : Option Order) (orders : List Order) → IfAny IsTelling o → filter_map order_sends (option_to_list o ++ orders) ≡ filter_map order_sends orders
skips None orders i = refl
skips (Some o) orders i = ap (λ (x : Option Sent). cons_option x (filter_map order_sends orders)) i

-- a note and its order send the same
sends_alike : (s : Settings) (history : History) (client n number : ℕ) (packet : Option Held) (h : Held) (notes : List Note) (orders : List Order) → packet ≡ Some h
    → filter_map note_sends notes ≡ filter_map order_sends orders
    → filter_map note_sends (note.Burst client n number ∷ notes) ≡ filter_map order_sends (option_to_list (packet_order client n number packet) ++ orders)
sends_alike s history client n number packet h notes orders is e =
    let sent : Sent = record { client = client; n = n; sequence = number } in
    subst (λ (p : Option Held). sent ∷ filter_map note_sends notes ≡ filter_map order_sends (option_to_list (packet_order client n number p) ++ orders)) (sym is)
    (ap (λ (l : List Sent). sent ∷ l) e)

one_alike : (s : Settings) (history : History) (n : Note) (packet : Option Held) (notes : List Note) (orders : List Order) → Allows s history n packet
    → filter_map note_sends notes ≡ filter_map order_sends orders
    → filter_map note_sends (n ∷ notes) ≡ filter_map order_sends (option_to_list (order_of s history n packet) ++ orders)
unfolding order_of
one_alike s history (note.Burst client n number) packet notes orders a e = sends_alike s history client n number packet a.h notes orders a.packet_is e
one_alike s history (note.Repair client n number) packet notes orders a e = sends_alike s history client n number packet a.h notes orders a.packet_is e
one_alike s history n packet notes orders a e = e ∙ sym (skips (order_of s history n packet) orders (tells s history n packet refl))

all_alike : (s : Settings) (history : History) (notes : List Note) (orders : List Order) → IsLegal s history → filter_map note_sends notes ≡ filter_map order_sends orders
    → filter_map note_sends (newest_notes history notes) ≡ filter_map order_sends (newest_orders s history orders)
unfolding newest_notes newest_orders
all_alike s [] notes orders l e = e
all_alike s (began heard ∷ history) notes orders l e = e
all_alike s (told client message ∷ history) notes orders l e = all_alike s history notes orders l e
all_alike s (noted n p ∷ history) notes orders l e =
    all_alike s history (n ∷ notes) (option_to_list (order_of s history n p) ++ orders) l.1 (one_alike s history n p notes orders l.0 e)

pub ordered_once : (s : Settings) (e : Entry) (book : Book) → IsLawful s (e ∷ book) → filter_map note_sends e.answer.notes ≡ filter_map order_sends e.answer.orders
ordered_once s e book l =
    let whole = history_of s (e.event ∷ events_of book) in
    subst (λ x. filter_map note_sends x.notes ≡ filter_map order_sends x.orders) (sym l.0) (all_alike s whole [] [] (legal_history s (e.event ∷ events_of book)) refl)
