-- What the records of a capture are to channels.
use Rattle.std.specs.Prelude.{ℕ, nat_le, if◌then◌else◌, List, [], ◌∷◌, ◌++◌, length, replicate, Option, Some, None, option_to_list, Result, Ok, Err}
use Rattle.converters.specs.declared.{capture_loop.pcap_trace.head.CaptureFault.CaptureFault, capture_loop.pcap_trace.head.Endian.Endian}
use Rattle.converters.specs.capture_loop.pcap_trace.{Datagram, Elapsed, datagram_at, ticks_between, widened}
use Rattle.server_hub.specs.declared.{HubEvent.HubEvent, HubEvent.TheVariants.Tick}
use Rattle.server_hub.specs.Served.{Served}
use Rattle.trace_loop.specs.journal_book.{heard_from}
use Rattle.converters.specs.capture_loop.Files.{Captured, order_in, file_records}

-- what a datagram is to these channels, where it has at most 2,000 bytes
abbrev pub datagram_heard : ℕ → List Served → Option Datagram → Option HubEvent
datagram_heard port channels None = None
datagram_heard port channels (Some d) = if nat_le (length d.payload) 2000 then heard_from port channels d.from d.port d.payload else None

-- the event of a frame, where it is one: the first of these channels has its live packets from this port and its feedback from the next, and each other one from the two above those of the channel in front of it
abbrev pub frame_heard : ℕ → List Served → List ℕ → Option HubEvent
frame_heard port channels frame = datagram_heard port channels (datagram_at frame)

-- so many ticks, and then this event
abbrev pub ticks_and : ℕ → Option HubEvent → List HubEvent
ticks_and ticks event = replicate ticks Tick ++ option_to_list event

-- the events of a record: the ticks that are due by its moment, and then its frame's
abbrev pub record_events : ℕ → List Served → Elapsed → Captured → List HubEvent
record_events port channels clock c = ticks_and (ticks_between clock c.ms) (frame_heard port channels c.frame)

-- the clock, told one moment more
abbrev pub clock_told : ℕ → Elapsed → Elapsed
clock_told ms clock = record clock { seen = Some (widened ms clock.seen) }

-- the events of records, one after another
unfoldable pub events_in : ℕ → List Served → Elapsed → List Captured → List HubEvent
events_in port channels clock [] = []
events_in port channels clock (c ∷ more) = record_events port channels clock c ++ events_in port channels (clock_told c.ms clock) more

-- a clock with ticks of so many ms that was told no moment
abbrev pub new_clock : ℕ → Elapsed
new_clock tick = record { tick = tick; seen = None }

abbrev pub events_by : ℕ → List Served → Elapsed → List ℕ → Result Endian CaptureFault → List HubEvent
events_by port channels clock bytes (Err fault) = []
events_by port channels clock bytes (Ok e) = events_in port channels clock (file_records e bytes).all

-- the events of the records of a file, up to the first that isn't whole
abbrev pub file_events : ℕ → List Served → Elapsed → List ℕ → List HubEvent
file_events port channels clock bytes = events_by port channels clock bytes (order_in bytes)
