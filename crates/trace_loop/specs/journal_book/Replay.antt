-- The datagrams that a trace stands for: what a server that reads it with `run` would send.
use Rattle.std.specs.Prelude.{ℕ, ◌+◌, List, [], ◌∷◌, ◌++◌, Option, Some, None, Result, Ok, Err}
use Rattle.rams_model.specs.declared.LineFault.{LineFault}
use Rattle.rams_model.specs.Texts.{TraceLine, whole_lines, Reached, judged}
use Rattle.ram_io.specs.{Outgoing}
use Rattle.server_hub.specs.declared.HubEvent.{HubEvent}
use Rattle.server_hub.specs.Served.{Served}
use Rattle.trace_loop.specs.trace_book.trace_serving.{Stage, Turn, goes_on, ends, opening, turn, brought}
use Rattle.trace_loop.specs.trace_book.{run}
use Rattle.trace_loop.specs.journal_book.Sent.{datagrams_of}

-- the event of a line that was judged
abbrev pub event_read : Result (TraceLine × Reached) LineFault → Option HubEvent
event_read (Ok read) = brought run read.0
event_read (Err fault) = None

-- what is sent for an event that there may be
abbrev pub datagrams_to : ℕ → Option HubEvent → List Served → List Outgoing
datagrams_to port None channels = []
datagrams_to port (Some event) channels = datagrams_of port event channels

-- what is sent where a line goes on, and then by the lines behind it
abbrev pub sent_after : Turn (List Served) → List Outgoing → (Stage (List Served) → List Outgoing) → List Outgoing
sent_after (goes_on later text) sent rest = sent ++ rest later
sent_after (ends outcome) sent rest = []

-- What is sent for these lines, the first of which is line number `number`, where the first channel has this feedback port.
unfoldable pub replayed_from : ℕ → Stage (List Served) → ℕ → List (List ℕ) → List Outgoing
replayed_from port stage number [] = []
replayed_from port stage number (bytes ∷ lines) =
    sent_after (turn run stage number bytes) (datagrams_to port (event_read (judged stage.reached bytes)) stage.state) (λ later. replayed_from port later (number + 1) lines)

-- What is sent for the lines of a trace that end with a line feed, where the first channel has the live port `live`: datagrams leave from the port above it.
abbrev pub replayed : ℕ → List ℕ → List Outgoing
replayed live trace = replayed_from (live + 1) (opening run) 1 (whole_lines trace)
