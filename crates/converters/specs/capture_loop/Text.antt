-- The text of a capture: a head, a line for each event, and how it ends.
use Rattle.std.specs.Prelude.{ℕ, ◌+◌, nat_le, if◌then◌else◌, List, ◌∷◌, ◌++◌, length, take, Result, Ok, Err, codes}
use Rattle.rams_model.specs.declared.{Status.Status, Status.TheVariants.Done, Status.TheVariants.BadCapture}
use Rattle.rams_model.specs.Texts.{spaced, tick_of}
use Rattle.converters.specs.declared.{capture_loop.pcap_trace.head.CaptureFault.CaptureFault, capture_loop.pcap_trace.head.Endian.Endian}
use Rattle.converters.specs.declared.capture_loop.pcap_trace.head.CaptureFault.TheVariants.{Short, Magic, Version, Link, Cut, Long}
use Rattle.converters.specs.capture_loop.pcap_trace.{Elapsed}
use Rattle.server_hub.specs.declared.HubEvent.{HubEvent}
use Rattle.server_hub.specs.Served.{Served}
use Rattle.trace_loop.specs.trace_book.trace_serving.{Outcome, ended, after_text, too_long}
use Rattle.trace_loop.specs.trace_book.{most_events}
use Rattle.trace_loop.specs.journal_book.{event_lines}
use Rattle.trace_loop.specs.head_loop.{behind_head, head_end, head_stage, head_text}
use Rattle.converters.specs.capture_loop.Files.{Records, RecordsEnd, whole, broken, too_many, order_in, file_records}
use Rattle.converters.specs.capture_loop.Events.{events_in, file_events, new_clock}

abbrev pub fault_word : CaptureFault → List ℕ
fault_word Short = codes "short"
fault_word Magic = codes "magic"
fault_word Version = codes "version"
fault_word Link = codes "link"
fault_word Cut = codes "cut"
fault_word Long = codes "long"

-- the line that says of a record, by its number from 1, why it is refused; the file's head has the number 0
abbrev pub refused_record : ℕ → CaptureFault → List ℕ
refused_record number fault = codes "refused-capture" ++ spaced number ++ (32 ∷ (fault_word fault ++ codes "\n"))

abbrev pub refused_capture : ℕ → CaptureFault → Outcome
refused_capture number fault = ended BadCapture (refused_record number fault)

-- how the text ends behind so many records
abbrev pub ending : ℕ → RecordsEnd → Outcome
ending count whole = ended Done (codes "end\n")
ending count (broken fault) = refused_capture (count + 1) fault
ending count too_many = too_long

-- for how many events a trace has room
unfoldable pub event_room : ℕ
event_room = most_events

-- the lines of events, of which there may be so many, and how the text ends behind them; one event too many ends it in its place
abbrev pub limited : ℕ → List HubEvent → Outcome → Outcome
limited room events end =
    if nat_le (length events) room then after_text (event_lines events) end else after_text (event_lines (take room events)) too_long

-- the text of records, behind so many others, where there may be so many more events
abbrev pub records_text : ℕ → List Served → Elapsed → ℕ → ℕ → Records → Outcome
records_text port channels clock room count r = limited room (events_in port channels clock r.all) (ending (count + length r.all) r.end)

abbrev pub text_by_order : ℕ → List Served → Elapsed → List ℕ → Result Endian CaptureFault → Outcome
text_by_order port channels clock bytes (Err fault) = refused_capture 0 fault
text_by_order port channels clock bytes (Ok e) = records_text port channels clock event_room 0 (file_records e bytes)

-- the text of a file
abbrev pub file_text : ℕ → List Served → Elapsed → List ℕ → Outcome
file_text port channels clock bytes = text_by_order port channels clock bytes (order_in bytes)

-- the text behind a head that ends with `end`; how it ends else
abbrev pub behind_end : Status → Outcome → Outcome → Outcome
behind_end Done end text = text
behind_end _ end text = end

-- the clock of a head's ticks
abbrev pub head_clock : List ℕ → Elapsed
head_clock xs = new_clock (tick_of (head_stage xs).reached.head)

-- The text of a head and a capture file behind it, and its status: the head's lines, and then the file's text; or the one line that says which line of the head is refused.
unfoldable pub capture_text : ℕ → List ℕ → Outcome
capture_text port xs =
    behind_end (head_end xs).status (head_end xs) (after_text (head_text xs) (file_text port (head_stage xs).state (head_clock xs) (behind_head xs)))

-- the events of that file
abbrev pub capture_events : ℕ → List ℕ → List HubEvent
capture_events port xs = file_events port (head_stage xs).state (head_clock xs) (behind_head xs)
