-- What clients are sent of their bursts.
use Rattle.std.specs.Prelude.{◌≡◌, ℕ, ◌<◌, Bool, ◌==◌, if◌then◌else◌, ◌⊎◌, List, [], ◌∷◌, ◌++◌, length, map, filter_map, Option, Some, None, IsSomeAnd, Ok, unwrap_or, All, Contains}
use Rattle.std.specs.List.{range_with_len}
use Rattle.rams_model.specs.declared.{Order.Order, Held.Held, Note.Note, Event.TheVariants.Live}
use Rattle.rams_model.specs.declared.LiveNote.TheVariants.{Took, Restart}
use Rattle.rams_model.specs.declared.Order.TheVariants as order
use Rattle.rams_model.specs.declared.Note.TheVariants as note
use Rattle.rams_model.specs.Service.{Settings, asks, noted, History, hold, datagram, Entry, Book, IsLawful}
use Rattle.rams_model.specs.Formats.{Packet, retransmission, packet_at, Request}
use Rattle.rams_model.specs.Laws.{source, IsChoice, StandsWithout, is_accept_of, is_end_of}
use Rattle.service_laws.specs.book_laws.Moments.{IsMoment, LastAccept}
use Rattle.service_laws.specs.book_laws.Answering.{IsAnswered}

-- A packet of a burst that was sent: the number that its note gives, and the packet.
pub record Sending : Type 0 where
  pub n : ℕ
  pub packet : Option Held

abbrev pub sending : ℕ → Option Held → Sending
sending n packet = record { n = n; packet = packet }

-- the packets of bursts that the client was sent, oldest first
unfoldable pub first_sendings : ℕ → History → List Sending
first_sendings client [] = []
first_sendings client (noted (note.Burst who n sequence) packet ∷ history) =
    if who == client then first_sendings client history ++ sending n packet ∷ [] else first_sendings client history
first_sendings client (_ ∷ history) = first_sendings client history

-- their numbers go up from this one, without a gap
abbrev pub AreNumberedFrom : ℕ → List Sending → Type 0
AreNumberedFrom first sendings = map (λ x. x.n) sendings ≡ range_with_len first (length sendings)

-- what was sent is one of these packets, under its number
abbrev pub IsPacketOf : List Held → Sending → Type 0
IsPacketOf packets x = IsSomeAnd x.packet (λ h. (h.n ≡ x.n) × Contains packets h)

-- Sent of each burst is the packet that its Accept named, the next one of the source, and so on.
abbrev pub FirstSendingsAreConsecutive : Type 0
FirstSendingsAreConsecutive =
    (s : Settings) (history : History) → IsMoment s history → (client : ℕ) (a : LastAccept history client)
    → AreNumberedFrom a.first (first_sendings client a.since) × All (IsPacketOf (source s history)) (first_sendings client a.since)

-- A packet that is sent was held as its note was made; it is of the source, then and ever after.
abbrev pub WhatIsSentIsHeld : Type 0
WhatIsSentIsHeld =
    (s : Settings) (client n sequence : ℕ) (packet : Option Held) (later before : History) → IsMoment s (later ++ noted (note.Burst client n sequence) packet ∷ before)
    → IsPacketOf (hold s before) (sending n packet) × IsPacketOf (source s (later ++ noted (note.Burst client n sequence) packet ∷ before)) (sending n packet)

-- A packet of a burst is sent only to a client with an open burst: an Accept of it stands, and no End of it after that.
abbrev pub NothingIsSentUnasked : Type 0
NothingIsSentUnasked =
    (s : Settings) (client n sequence : ℕ) (packet : Option Held) (before : History) → IsMoment s (noted (note.Burst client n sequence) packet ∷ before)
    → StandsWithout (is_accept_of client) (is_end_of client) before

-- Whoever was accepted has a last Accept, of which the other laws speak.
abbrev pub WhoeverWasAcceptedHasALastAccept : Type 0
WhoeverWasAcceptedHasALastAccept = (history : History) (client : ℕ) → StandsWithout (is_accept_of client) (λ i. Bool.false) history → LastAccept history client

-- A request of the client is answered, and of what is held the packet of this number is the newest eligible access point that is as old as the request asks for at least; it is no older than the request allows.
pub record BeginsAsAsked (s : Settings) (history : History) (client first : ℕ) : Type 0 where
  pub sender : ℕ
  pub request : Request
  pub asked : IsAnswered history client (asks sender (Ok request))
  pub start : Held
  pub number : start.n ≡ first
  pub choice : IsChoice s.channel (hold s history) (unwrap_or request.min_ms 0) request.max_ms (Ok start)

-- An Accept names the access point that its request has coming.
abbrev pub ABurstBeginsAtAnEligibleAccessPoint : Type 0
ABurstBeginsAtAnEligibleAccessPoint =
    (s : Settings) (history : History) → IsMoment s history → (client : ℕ) (a : LastAccept history client) → BeginsAsAsked s a.before client a.first

-- the one note says that a packet was taken under this number, by a new start or not
abbrev pub IsTakenAs : ℕ → List Note → Type 0
IsTakenAs n notes = (notes ≡ note.Live (Took n) ∷ []) ⊎ (notes ≡ note.Live (Restart n) ∷ [])

-- An earlier entry of the book is of a live packet that was taken under this number, and the datagram is its retransmission under this sequence number (RFC 4588, 4).
pub record Retransmits (s : Settings) (book : Book) (n sequence : ℕ) (sent : List ℕ) : Type 0 where
  pub later : Book
  pub entry : Entry
  pub earlier : Book
  pub splits : book ≡ later ++ entry ∷ earlier
  pub bytes : List ℕ
  pub came : entry.event ≡ Live bytes
  pub packet : Packet
  pub is_read : packet_at bytes ≡ Ok packet
  pub took : IsTakenAs n entry.answer.notes
  pub is_its : All (λ b. b < 256) bytes → sent ≡ retransmission packet s.channel.rtx sequence

-- so it is, where the order is one for a packet
abbrev pub IsOfTheSource : Settings → Book → Order → Type 0
IsOfTheSource s book (order.Rtx client n sequence packet) = Retransmits s book n sequence (datagram s (order.Rtx client n sequence packet))
IsOfTheSource s book (order.Info client info) = Unit {0}

-- Each packet that an answer of a lawful book orders is that of one which came before.
abbrev pub EachDatagramIsTheRetransmissionOfASourcePacket : Type 0
EachDatagramIsTheRetransmissionOfASourcePacket = (s : Settings) (e : Entry) (book : Book) → IsLawful s (e ∷ book) → All (IsOfTheSource s book) e.answer.orders

-- What a note or an order sends: to whom, which number, and under which sequence number.
pub record Sent : Type 0 where
  pub client : ℕ
  pub n : ℕ
  pub sequence : ℕ

abbrev pub note_sends : Note → Option Sent
note_sends (note.Burst client n sequence) = Some (record { client = client; n = n; sequence = sequence })
note_sends (note.Repair client n sequence) = Some (record { client = client; n = n; sequence = sequence })
note_sends _ = None

abbrev pub order_sends : Order → Option Sent
order_sends (order.Rtx client n sequence packet) = Some (record { client = client; n = n; sequence = sequence })
order_sends (order.Info client info) = None

-- The orders for packets in an answer are those of its Burst and Repair notes: one of each, in their order, and no others.
abbrev pub EachSendingIsOrderedOnce : Type 0
EachSendingIsOrderedOnce =
    (s : Settings) (e : Entry) (book : Book) → IsLawful s (e ∷ book) → filter_map note_sends e.answer.notes ≡ filter_map order_sends e.answer.orders
