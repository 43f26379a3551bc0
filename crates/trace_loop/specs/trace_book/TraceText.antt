-- The command `run`: what serves its traces, and the text that it writes for one.
use Rattle.std.specs.Prelude.{ℕ, Bool, List, [], ◌∷◌, ◌++◌, Option, None, Some, codes}
use Rattle.std.specs.List.{flat_map}
use Rattle.rams_model.specs.declared.{Event.Event, Mode.TheVariants.Run}
use Rattle.rams_model.specs.declared.Event.TheVariants as event
use Rattle.rams_model.specs.Texts.{bytes_in, TraceLine, live_line, feedback_line, tick_line, answer_text}
use Rattle.server_hub.specs.declared.HubEvent.{HubEvent}
use Rattle.server_hub.specs.{served, channel_of, answer_to, after_event}
use Rattle.server_hub.specs.declared.HubEvent.TheVariants.{Live, Feedback, Tick}
use Rattle.server_hub.specs.Served.{Served}
use Rattle.book_text.specs.{no_channel_line}
use Rattle.trace_loop.specs.trace_book.trace_serving.{Serving, Outcome, served_text, last_stage}

abbrev pub first_line : List ℕ
first_line = codes "rams-book 1\n"

-- most events
abbrev pub most_events : ℕ
most_events = 1000000

-- the lines of what a channel answers to the event of this number
abbrev pub channel_text : ℕ → Event → Served → List ℕ
channel_text number e c = answer_text c.settings number (answer_to e c)

-- the same where there may be no channel of the number that the event names
abbrev pub named_text : ℕ → ℕ → Event → Option Served → List ℕ
named_text number id e None = no_channel_line number id
named_text number id e (Some c) = channel_text number e c

-- what the event of this number is answered with
abbrev pub event_text : ℕ → HubEvent → List Served → List ℕ
event_text number (Live id bytes) channels = named_text number id (event.Live bytes) (channel_of id channels)
event_text number (Feedback id client bytes) channels = named_text number id (event.Feedback client bytes) (channel_of id channels)
event_text number Tick channels = flat_map (channel_text number event.Tick) channels

-- the event that a line brings to the server
abbrev pub event_of : TraceLine → Option HubEvent
event_of (live_line id hex) = Some (Live id (bytes_in hex))
event_of (feedback_line id client hex) = Some (Feedback id client (bytes_in hex))
event_of tick_line = Some Tick
event_of _ = None

-- A trace is served by channels, in the order of their lines, and what came to each.
abbrev pub run : Serving (List Served) HubEvent
run = record {
  mode = Run;
  most = most_events;
  first_line = first_line;
  start = [];
  event_of = event_of;
  opened = λ settings channels. channels ++ served settings [] ∷ [];
  after = after_event;
  text = event_text;
  fits = λ channels. Bool.true;
}

-- how the trace ends, and its book
abbrev pub trace_text : List ℕ → Outcome
trace_text trace = served_text run trace

-- the channels that a trace is served by, and what came to each
abbrev pub served_by : List ℕ → List Served
served_by trace = (last_stage run trace).state
