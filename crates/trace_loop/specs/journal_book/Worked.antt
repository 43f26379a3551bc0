-- Worked examples: what a server hears, when its ticks come, and a journal with what is sent and replayed.
use Rattle.std.specs.Prelude.{◌≡◌, ℕ, List, [], ◌∷◌, ◌++◌, map, Some, None, codes}
use Rattle.rams_model.specs.declared.Status.TheVariants.{Done}
use Rattle.rams_model.specs.Service.{settings}
use Rattle.rams_model.specs.Texts.{bytes_in}
use Rattle.rams_model.specs.Worked.Setting.{channel}
use Rattle.ram_io.specs.declared.{Incoming.Incoming, Incoming.TheVariants.Nothing, Incoming.TheVariants.Datagram}
use Rattle.ram_io.specs.{Outgoing, outgoing}
use Rattle.server_hub.specs.declared.HubEvent.{HubEvent}
use Rattle.server_hub.specs.declared.HubEvent.TheVariants.{Live, Feedback, Tick}
use Rattle.server_hub.specs.Served.{Served}
use Rattle.server_hub.specs.{served}
use Rattle.trace_loop.specs.trace_book.trace_serving.{ended}
use Rattle.trace_loop.specs.trace_book.{trace_text}
use Rattle.trace_loop.specs.trace_book.Worked.{head_text, plain_line}
use Rattle.trace_loop.specs.journal_book.Heard.{heard, events_of}
use Rattle.trace_loop.specs.journal_book.Journal.{journal_of}
use Rattle.trace_loop.specs.journal_book.Sent.{sent_for}
use Rattle.trace_loop.specs.journal_book.Replay.{replayed}
use Rattle.trace_loop.specs.journal_book.Heads.{Opens}

-- channel 7, with ticks of 10 ms and a link of 100,000 bytes
abbrev pub seven : Served
seven = served (settings channel 10) []

-- the same settings under the number 8
abbrev pub eight : Served
eight = served (settings (record channel { id = 8 }) 10) []

-- the head that opens channel 7
abbrev pub head_lines : List ℕ
head_lines = head_text ++ plain_line

-- packet 10 of the channel, with the marker and four zero bytes
abbrev pub packet_digits : List ℕ
packet_digits = codes "80a1000a000000001122334400000000"

-- a RAMS-R without TLVs (RFC 6285, 7.2)
abbrev pub request_digits : List ℕ
request_digits = codes "86cd00030000c0011122334401000000"

abbrev pub packet : List ℕ
packet = bytes_in packet_digits

abbrev pub request : List ℕ
request = bytes_in request_digits

-- what sender 5 sends to this port
abbrev pub from_five : ℕ → Incoming
from_five port = Datagram 5 port (0x80 ∷ [])

-- Each channel has two ports, the live one and the one for feedback; what comes to any other port is no event.
abbrev pub TwoPortsEach : Type 0
TwoPortsEach =
    map (λ port. heard 5000 (seven ∷ eight ∷ []) (from_five port)) (4999 ∷ 5000 ∷ 5001 ∷ 5002 ∷ 5003 ∷ 5004 ∷ [])
    ≡ None
    ∷ Some (Live 7 (0x80 ∷ []))
    ∷ Some (Feedback 7 5 (0x80 ∷ []))
    ∷ Some (Live 8 (0x80 ∷ []))
    ∷ Some (Feedback 8 5 (0x80 ∷ []))
    ∷ None
    ∷ []

-- the events of so many turns, at these moments; the first is of the start
abbrev pub at_moments : ℕ → List Incoming → List ℕ → List HubEvent
at_moments turns arrivals moments = events_of 5000 10 (seven ∷ []) turns arrivals moments

-- A tick is due 10 ms after the start, and then 10 ms after the moment of the tick before, however late that was. A turn has one tick at most, behind its datagram. A clock repeats its last moment.
abbrev pub TicksFallDue : Type 0
TicksFallDue =
    (at_moments 2 [] (0 ∷ 9 ∷ 10 ∷ []) ≡ Tick ∷ [])
    × (at_moments 3 [] (0 ∷ 10 ∷ 25 ∷ 34 ∷ []) ≡ Tick ∷ Tick ∷ [])
    × (at_moments 3 [] (0 ∷ 10 ∷ 25 ∷ 35 ∷ []) ≡ Tick ∷ Tick ∷ Tick ∷ [])
    × (at_moments 2 [] (0 ∷ 50 ∷ []) ≡ Tick ∷ [])
    × (at_moments 2 (from_five 5000 ∷ Nothing ∷ from_five 5000 ∷ []) (7 ∷ 17 ∷ 18 ∷ []) ≡ Live 7 (0x80 ∷ []) ∷ Tick ∷ [])

-- what comes in three turns
abbrev pub arrivals : List Incoming
arrivals = Datagram 9 5000 packet ∷ Datagram 5 5001 request ∷ Nothing ∷ []

abbrev pub events : List HubEvent
events = at_moments 3 arrivals (0 ∷ 3 ∷ 6 ∷ 10 ∷ [])

abbrev pub journal : List ℕ
journal = journal_of head_lines events

-- The journal of these turns: a packet, a request, and then nothing while the tick comes.
abbrev pub JournalOfThreeTurns : Type 0
JournalOfThreeTurns =
    journal
    ≡ head_lines ++ codes "live 7 80a1000a000000001122334400000000\n" ++ codes "fb 7 5 86cd00030000c0011122334401000000\n" ++ codes "tick\n" ++ codes "end\n"

-- the RAMS-I and the retransmission, to client 5 from the channel's feedback port
abbrev pub two_datagrams : List Outgoing
two_datagrams =
    outgoing 5 5001 (bytes_in (codes "86cd000caabbccdd11223344020000c82000000201f40000210000040000000a22000004000003e823000008000000000030d400"))
    ∷ outgoing 5 5001 (bytes_in (codes "80e301f40000000011223344000a00000000"))
    ∷ []

-- These were sent, the journal's replay sends them, and `run` writes them.
abbrev pub ItsDatagrams : Type 0
ItsDatagrams =
    (sent_for 5001 (seven ∷ []) events ≡ two_datagrams)
    × (replayed 5000 journal ≡ two_datagrams)
    × (trace_text journal
    ≡ ended Done (
    codes "rams-book 1\n"
    ++ codes "1 7 took 65546\n"
    ++ codes "2 7 accept 5 first 65546 rate 4000 join 1\n"
    ++ codes "2 7 send 5 86cd000caabbccdd11223344020000c82000000201f40000210000040000000a22000004000003e823000008000000000030d400\n"
    ++ codes "3 7 burst 5 65546 500\n"
    ++ codes "3 7 send 5 80e301f40000000011223344000a00000000\n"
    ++ codes "done 3\n"))

-- a NACK for packet 10 (RFC 4585, 6.2.1)
abbrev pub loss : List ℕ
loss = bytes_in (codes "81cd00030000c00111223344000a0000")

-- channel 8 with other sequence numbers of its own
abbrev pub eight_from_700 : Served
eight_from_700 = served (settings (record channel { id = 8; seq0 = 700 }) 10) []

-- In a tick each channel answers from its own feedback port, in the order of their lines.
abbrev pub EachFromItsOwnPort : Type 0
EachFromItsOwnPort =
    sent_for 5001 (eight_from_700 ∷ seven ∷ []) (Live 7 packet ∷ Live 8 packet ∷ Feedback 7 5 loss ∷ Feedback 8 6 loss ∷ Tick ∷ [])
    ≡ outgoing 6 5001 (bytes_in (codes "80e302bc0000000011223344000a00000000"))
    ∷ outgoing 5 5003 (bytes_in (codes "80e301f40000000011223344000a00000000"))
    ∷ []

-- Where the last line is cut, it isn't replayed: in its digits it may read as another event.
abbrev pub ACutLineIsNotReplayed : Type 0
ACutLineIsNotReplayed =
    replayed 5000 (head_lines ++ codes "live 7 80a1000a000000001122334400000000\n" ++ codes "fb 7 5 86cd00030000c0011122334401000000") ≡ []

-- The head opens its channel.
abbrev pub TheHeadOpens : Type 0
TheHeadOpens = Opens head_lines (seven ∷ [])

-- A head with `end` in it would not do: `run` reads nothing behind that line.
abbrev pub AnEndTooMany : Type 0
AnEndTooMany =
    (trace_text (journal_of (head_lines ++ codes "end\n") events) ≡ ended Done (codes "rams-book 1\ndone 0\n"))
    × (replayed 5000 (journal_of (head_lines ++ codes "end\n") events) ≡ [])
