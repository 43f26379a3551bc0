-- What the sink and the wire have while a server serves, and where it stops.
use Rattle.std.specs.Prelude.{◌≡◌, ℕ, ◌+◌, ◌≤◌, List, length, option_to_list, ◌++◌, Option, Result, IfErr}
use Rattle.std.specs.Io.KnownBytes.{Appends}
use Rattle.ram_io.specs.declared.Incoming.{Incoming}
use Rattle.ram_io.specs.{Outgoing, Rose, cut, next_answer}
use Rattle.server_hub.specs.declared.HubEvent.{HubEvent}
use Rattle.server_hub.specs.{StandsFor}
use Rattle.server_hub.specs.Seen.{Seen}
use Rattle.server_hub.specs.Served.{Served}
use Rattle.trace_loop.specs.journal_book.{AreApart, heard, behind, event_lines, sent_for}
use Rattle.trace_loop.specs.head_loop.{numbers, AnswersFrom, StandsSomewhere}
use Rattle.trace_loop.specs.declared.Stop.{Stop}
use Rattle.trace_loop.specs.declared.Stop.TheVariants.{Memory, Read, Write, Wire}
use Rattle.serve_loop.specs.Sending.{GoOut}

-- With what a server began its turns: the live port of the first channel, the head and the channels that it opens, what the sink held in front of the head, and what the wire had sent.
pub record Begun : Type 0 where
  pub live : ℕ
  pub head : List ℕ
  pub channels : List Served
  pub held : Option (List ℕ)
  pub went : Option (List Outgoing)

-- the datagrams of these events
abbrev pub sent_by : Begun → List HubEvent → List Outgoing
sent_by b events = sent_for (b.live + 1) b.channels events

-- These events came. The sink has the lines of the first of them, and a part of those behind, for which nothing is sent; what waits is the rest. The wire has sent the datagrams.
pub record Serving (b : Begun) (events : List HubEvent) (holds : Option (List ℕ)) (waits : List ℕ) (sent : Option (List Outgoing)) : Type 0 where
  pub past : List HubEvent
  pub quiet : List HubEvent
  pub part : List ℕ
  pub splits : events ≡ past ++ quiet
  pub lines : event_lines quiet ≡ part ++ waits
  pub sink : Appends b.held holds (b.head ++ (event_lines past ++ part))
  pub wire : GoOut b.went sent (sent_by b past)
  pub quietly : sent_by b events ≡ sent_by b past

-- what waits stands in front of the rest, where the sink didn't stop the call
abbrev pub WaitsIn : List ℕ → List ℕ → Stop → Type 0
WaitsIn waits rest Write = Unit {0}
WaitsIn waits rest _ = (more : List ℕ) × (rest ≡ waits ++ more)

-- A server stopped while these events came. The sink has the lines of the first of them whole, and a part of those behind; the wire has sent a front of the datagrams of these first ones.
pub record Broken (b : Begun) (events : List HubEvent) (holds : Option (List ℕ)) (waits : List ℕ) (sent : Option (List Outgoing)) (stop : Stop) : Type 0 where
  pub past : List HubEvent
  pub next : List HubEvent
  pub part : List ℕ
  pub rest : List ℕ
  pub goes : List Outgoing
  pub stays : List Outgoing
  pub splits : events ≡ past ++ next
  pub lines : event_lines next ≡ part ++ rest
  pub sink : Appends b.held holds (b.head ++ (event_lines past ++ part))
  pub datagrams : sent_by b past ≡ goes ++ stays
  pub wire : GoOut b.went sent goes
  pub waiting : WaitsIn waits rest stop

-- the sink's faults, or the wire's, rose where the stop is said to be that one's
abbrev pub IsOutStop : ℕ → ℕ → ℕ → ℕ → Stop → Type 0
IsOutStop write writes wire wires Memory = Unit {0}
IsOutStop write writes wire wires Read = ⊥
IsOutStop write writes wire wires Write = Rose write writes
IsOutStop write writes wire wires Wire = Rose wire wires

-- Neither count of faults fell, and that of the sink or of the wire rose where that one is said to have stopped the call. The source isn't.
pub record IsStoppedOutside {T : Type 0} (write writes wire wires : ℕ) (result : Result T Stop) : Type 0 where
  pub write_later : write ≤ writes
  pub wire_later : wire ≤ wires
  pub cause : IfErr result (IsOutStop write writes wire wires)

-- What holds before an event is heard, whose first datagram leaves from this port.
pub record Ready (b : Begun) (events : List HubEvent) (hub : Seen) (holds : Option (List ℕ)) (waits : List ℕ) (sent : Option (List Outgoing)) (event : HubEvent) (first : ℕ) : Type 0 where
  pub apart : AreApart b.channels
  pub stands : StandsFor hub (behind events b.channels)
  pub serving : Serving b events holds waits sent
  pub from : AnswersFrom b.live (numbers b.channels) event first

-- These events were heard and answered.
pub record GoesOn (b : Begun) (events : List HubEvent) (hub : Seen) (holds : Option (List ℕ)) (waits : List ℕ) (sent : Option (List Outgoing)) : Type 0 where
  pub stands : StandsFor hub (behind events b.channels)
  pub serving : Serving b events holds waits sent

-- What a server has between two events, whatever came: a hub that stands for some channels, no more numbers than there may be channels, and a port from which all of theirs are ports.
pub record IsServer (live : ℕ) (ids : List ℕ) (hub : Seen) : Type 0 where
  pub port : live ≤ 65000
  pub few : length ids ≤ 64
  pub stands : StandsSomewhere hub

-- The server is the one that began so, and these events came.
pub record IsBetween (b : Begun) (events : List HubEvent) (live : ℕ) (ids : List ℕ) (hub : Seen) (holds : Option (List ℕ)) (waits : List ℕ) (sent : Option (List Outgoing)) : Type 0 where
  pub live_is : live ≡ b.live
  pub ids_are : ids ≡ numbers b.channels
  pub apart : AreApart b.channels
  pub stands : StandsFor hub (behind events b.channels)
  pub serving : Serving b events holds waits sent

-- the events of what the wire gives next
abbrev pub next_events : Begun → List Incoming → List HubEvent
next_events b arrivals = option_to_list (heard b.live b.channels (cut (next_answer arrivals)))
