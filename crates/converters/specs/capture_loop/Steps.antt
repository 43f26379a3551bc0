-- What the steps of writing a capture do.
use Rattle.std.specs.Prelude.{◌≡◌, ℕ, ◌+◌, ◌^◌, ◌<◌, ◌≤◌, List, [], ◌++◌, length, take, drop, All, Option, Result, Ok, Err, IfOk, codes}
use Rattle.std.specs.Io.KnownBytes.{IsAtEnd, prepend_known}
use Rattle.line_io.specs.Passes.{Passes}
use Rattle.rams_model.specs.declared.Status.TheVariants.{Done}
use Rattle.converters.specs.declared.{capture_loop.pcap_trace.head.CaptureFault.CaptureFault, capture_loop.pcap_trace.head.Endian.Endian}
use Rattle.converters.specs.declared.{capture_loop.last.End.End, capture_loop.records.Next.Next}
use Rattle.converters.specs.capture_loop.pcap_trace.{record_at}
use Rattle.server_hub.specs.declared.HubEvent.{HubEvent}
use Rattle.server_hub.specs.Served.{Served}
use Rattle.server_hub.specs.{id_of}
use Rattle.trace_loop.specs.trace_book.trace_serving.{Outcome, ended, after_text, too_long}
use Rattle.trace_loop.specs.{IfBothTold, IfTold}
use Rattle.trace_loop.specs.trace_book.{most_events}
use Rattle.trace_loop.specs.journal_book.{HasLine, IsNumber, event_lines}
use Rattle.trace_loop.specs.head_loop.{numbers}
use Rattle.converters.specs.declared.capture_loop.last.End.TheVariants.{Whole, Refused, TooLong}
use Rattle.converters.specs.declared.capture_loop.records.Next.TheVariants as next
use Rattle.converters.specs.capture_loop.Files.{most_records, order_in, record_in, records_in}
use Rattle.converters.specs.capture_loop.Events.{events_in, new_clock}
use Rattle.converters.specs.capture_loop.Text.{event_room, records_text, refused_capture}

-- The channels have these numbers, each of which a channel may have.
pub record Numbered (ids : List ℕ) (channels : List Served) : Type 0 where
  pub ids_are : ids ≡ numbers channels
  pub lawful : All (λ c. IsNumber (id_of c)) channels

-- what stands where a record may, by the bytes that are kept of it and what the source has left
abbrev pub IsNext : Endian → List ℕ → Option (List ℕ) → Next → Type 0
IsNext e kept left (next.Whole header) = (record_at e (take 16 kept) ≡ Ok header) × (16 + header.len ≤ length kept) × (header.ms < 2 ^ 43)
IsNext e kept left next.Ended = (kept ≡ []) × IsAtEnd left
IsNext e kept left (next.Broken fault) = (0 < length kept) × IfTold (prepend_known kept left) (λ xs. record_in e xs ≡ Err fault)
IsNext e kept left next.TooMany = ⊥

-- the same behind so many records
abbrev pub IsNextWithin : Endian → ℕ → List ℕ → Option (List ℕ) → Next → Type 0
IsNextWithin e count kept left (next.Whole header) = (count < most_records) × IsNext e kept left (next.Whole header)
IsNextWithin e count kept left next.Ended = IsNext e kept left next.Ended
IsNextWithin e count kept left (next.Broken fault) = (count < most_records) × IsNext e kept left (next.Broken fault)
IsNextWithin e count kept left next.TooMany = (most_records ≤ count) × (0 < length kept)

-- the byte order of a file, or the first fault of its head; where it has none, what stands behind it is left
abbrev pub HasOrder : Option (List ℕ) → Option (List ℕ) → Result Endian CaptureFault → Type 0
HasOrder left leaves order = IfBothTold left leaves (λ xs ys. (order_in xs ≡ order) × IfOk order (λ e. ys ≡ drop 24 xs))

-- the line with which a text ends, and the status
abbrev pub last : End → Outcome
last Whole = ended Done (codes "end\n")
last (Refused number fault) = refused_capture number fault
last TooLong = too_long

-- the text that went, but for what waits, and this end are the outcome
abbrev pub ComesTo : Option (List ℕ) → Option (List ℕ) → List ℕ → List ℕ → Outcome → End → Type 0
ComesTo held holds waited waits o end = (said : List ℕ) × (o ≡ after_text said (last end)) × Passes held holds (waited ++ said) waits

-- Of bytes those in front of what is left were taken, and the lines of the events of what is whole among them went, but for what waits.
abbrev pub HasLinesOf : (List ℕ → List HubEvent) → Option (List ℕ) → Option (List ℕ) → List ℕ → List ℕ → List ℕ → List ℕ → Type 0
HasLinesOf events held holds waited waits xs left = (part : List ℕ) × (xs ≡ part ++ left) × Passes held holds (waited ++ event_lines (events part)) waits

-- The events are such as a trace may have, and no more, and the text is their lines and `end`.
pub record AreWritten (events : List HubEvent) (o : Outcome) : Type 0 where
  pub spelled : All HasLine events
  pub few : length events ≤ most_events
  pub text : o ≡ after_text (event_lines events) (ended Done (codes "end\n"))

-- the outcome of the records of these bytes, which stand behind a file's head
abbrev pub records_outcome : ℕ → List Served → ℕ → Endian → List ℕ → Outcome
records_outcome port channels tick e xs = records_text port channels (new_clock tick) event_room 0 (records_in most_records e xs)

-- their events
abbrev pub records_events : ℕ → List Served → ℕ → Endian → List ℕ → List HubEvent
records_events port channels tick e xs = events_in port channels (new_clock tick) (records_in most_records e xs).all
