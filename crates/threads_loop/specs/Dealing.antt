-- What a trace for threads brings, and the lists into which its events are dealt.
use Rattle.std.specs.Prelude.{◌≡◌, ℕ, ◌+◌, ◌%◌, ◌==◌, Bool, List, [], ◌∷◌, ◌++◌, filter, Option, None, Some}
use Rattle.std.specs.List.{flat_map}
use Rattle.rams_model.specs.declared.{Event.Event, Mode.TheVariants.Threads}
use Rattle.rams_model.specs.declared.Event.TheVariants as event
use Rattle.server_hub.specs.declared.HubEvent.{HubEvent}
use Rattle.server_hub.specs.declared.HubEvent.TheVariants.{Live, Feedback, Tick}
use Rattle.server_hub.specs.{served, after_event}
use Rattle.server_hub.specs.Served.{Served}
use Rattle.trace_loop.specs.trace_book.trace_serving.{Serving, event_at, taken}
use Rattle.trace_loop.specs.trace_book.{event_of}
use Rattle.trace_loop.specs.head_loop.{with_feed}

-- A trace for threads is served as by `run`, but it is of one channel, it has 200,000 events at most, and nothing is written for an event while it is read.
abbrev pub threads : Serving (List Served) HubEvent
threads = record {
  mode = Threads;
  most = 200000;
  first_line = [];
  start = [];
  event_of = event_of;
  opened = λ settings channels. channels ++ served settings [] ∷ [];
  after = after_event;
  text = λ number e channels. [];
  fits = λ channels. Bool.true;
}

-- The list that an event is dealt into, of those that so many workers have: live packets, then ticks, then feedback by client.
abbrev pub list_of : ℕ → Event → ℕ
list_of workers (event.Live bytes) = 0
list_of workers event.Tick = 1
list_of workers (event.Feedback client bytes) = 2 + client % workers

-- the events that are dealt into this list, in their order
abbrev pub dealt : ℕ → ℕ → List Event → List Event
dealt workers list events = filter (λ e. list_of workers e == list) events

-- The events are an interleaving of the lists into which these are dealt: each list's are the same, in its order.
pub record Interleaves (workers : ℕ) (came events : List Event) : Type 0 where
  pub lists : (list : ℕ) → dealt workers list events ≡ dealt workers list came

-- an event of the channel of this number
abbrev pub hub_event : ℕ → Event → HubEvent
hub_event id (event.Live bytes) = Live id bytes
hub_event id (event.Feedback client bytes) = Feedback id client bytes
hub_event id event.Tick = Tick

-- a line that brings no event
abbrev pub part_of : Option HubEvent → List ℕ → List ℕ
part_of None bytes = with_feed bytes
part_of (Some e) bytes = []

abbrev pub head_part : List ℕ → List ℕ
head_part bytes = part_of (event_at threads bytes) bytes

-- the lines of a trace's head and of its channel
abbrev pub head_lines : List ℕ → List ℕ
head_lines xs = flat_map head_part (taken threads xs)
