-- How a trace is served by `run`: which lines are taken, which events they bring, what is written, and what ends it.
use Rattle.std.specs.Prelude.{◌≡◌, ℕ, ◌+◌, List, ◌++◌, length, map, filter_map, Option, option_to_list, All}
use Rattle.rams_model.specs.Texts.{lines_of}
use Rattle.server_hub.specs.declared.HubEvent.{HubEvent}
use Rattle.server_hub.specs.{id_of, after_events, events_of}
use Rattle.server_hub.specs.Served.{Served}
use Rattle.trace_loop.specs.trace_book.trace_serving.{Outcome, ended, last_stage, head_at, channel_at, event_at as event_brought, taken as taken_by, came as came_to, events_text as texts, EndsWith}
use Rattle.trace_loop.specs.trace_book.TraceText.{run, served_by, first_line, trace_text}
use Rattle.trace_loop.specs.trace_book.Stages.{new_channels}

-- the lines of a trace that are taken: those before the one that ends it
abbrev pub taken : List ℕ → List (List ℕ)
taken trace = taken_by run trace

-- the event that a line of these bytes brings
abbrev pub event_at : List ℕ → Option HubEvent
event_at bytes = event_brought run bytes

-- what came to the server: the events of the lines that are taken, the newest first
abbrev pub came : List ℕ → List HubEvent
came trace = came_to run trace

-- What these events, the newest first, are answered with; they are counted from 1.
abbrev pub events_text : List HubEvent → List Served → List ℕ
events_text events channels = texts run events channels

-- What a trace is served by, read off the lines that are taken.
pub record IsServed (trace : List ℕ) : Type 0 where
  -- there is at most one head line
  pub head : filter_map head_at (taken trace) ≡ option_to_list (last_stage run trace).reached.head
  -- the channels are those of the channel lines, in order
  pub opened : map (λ c. c.settings.channel) (served_by trace) ≡ filter_map channel_at (taken trace)
  -- to each came the live packets and datagrams of its number, and each tick, in order
  pub got : All (λ c. c.events ≡ events_of (id_of c) (came trace)) (served_by trace)
  -- so they are what new channels are after these events
  pub after : served_by trace ≡ after_events (came trace) (new_channels (served_by trace))
  -- each event is counted once
  pub count : (last_stage run trace).events ≡ length (came trace)

abbrev pub TracesAreServedByTheirLines : Type 0
TracesAreServedByTheirLines = (trace : List ℕ) → IsServed trace

-- A trace ends at the first line that doesn't go on. Its book is the first line, what its events are answered with, and how it ends.
pub record EndsSo (trace : List ℕ) : Type 0 where
  pub left : List (List ℕ)
  pub last : Outcome
  pub splits : lines_of trace ≡ taken trace ++ left
  pub why : EndsWith run (last_stage run trace) (length (taken trace) + 1) left last
  pub text : trace_text trace ≡ ended last.status (first_line ++ (events_text (came trace) (new_channels (served_by trace)) ++ last.text))

abbrev pub TracesEndSo : Type 0
TracesEndSo = (trace : List ℕ) → EndsSo trace
