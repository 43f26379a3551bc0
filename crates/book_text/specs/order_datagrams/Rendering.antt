-- Which orders have a datagram.
use Rattle.std.specs.Prelude.{◌∷◌, Bool, true, List, All, IsOk}
use Rattle.rams_model.specs.declared.{Order.Order, Event.Event, Order.TheVariants.Rtx, Order.TheVariants.Info}
use Rattle.rams_model.specs.Service.{Settings, answer, Entry, Book, IsLawful}
use Rattle.rams_model.specs.Formats.{is_plain, packet_at}

-- The packet of a retransmission reads as an RTP packet (RFC 3550, 5.1). A RAMS-I always has a datagram.
abbrev pub Renders : Order → Type 0
Renders (Rtx client n sequence packet) = IsOk (packet_at packet)
Renders (Info client info) = Unit {0}

-- The packet of a retransmission begins as one with a fixed header alone (RFC 3550, 5.1).
abbrev pub has_plain : Order → Bool
has_plain (Rtx client n sequence packet) = is_plain packet
has_plain (Info client info) = true

-- It sends a packet again.
abbrev pub IsRetransmission : Order → Type 0
IsRetransmission (Rtx client n sequence packet) = Unit {0}
IsRetransmission (Info client info) = ⊥

-- Each order of the answer to an event has a datagram, whatever came before.
abbrev pub EachOrderOfAnAnswerRenders : Type 0
EachOrderOfAnAnswerRenders = (s : Settings) (events : List Event) (event : Event) → All Renders (answer s events event).orders

-- So has each order of the newest answer of a lawful book.
abbrev pub EachOrderOfABookRenders : Type 0
EachOrderOfABookRenders = (s : Settings) (e : Entry) (book : Book) → IsLawful s (e ∷ book) → All Renders e.answer.orders
