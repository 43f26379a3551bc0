-- The command `meet`: what serves its traces, and the text that it writes for one.
use Rattle.std.specs.Prelude.{ℕ, nat_le, List, [], ◌∷◌, ◌++◌, length, Option, None, Some}
use Rattle.rams_model.specs.declared.Mode.TheVariants.{Meet}
use Rattle.rams_model.specs.Texts.{bytes_in, TraceLine, live_line, feedback_line, tick_line, tune_line, give_line, mcast_line, ask_line, drop_line}
use Rattle.server_hub.specs.declared.HubEvent.TheVariants as hub
use Rattle.server_hub.specs.{served}
use Rattle.meet_loop.specs.declared.world_laws.world.WorldEvent.{WorldEvent}
use Rattle.meet_loop.specs.declared.world_laws.world.WorldEvent.TheVariants.{Hub, Tune, Give, Mcast, Ask, Drop}
use Rattle.meet_loop.specs.world_laws.World.{World}
use Rattle.meet_loop.specs.world_laws.{new_world, happens}
use Rattle.meet_loop.specs.world_text.{first_line, event_lines}
use Rattle.trace_loop.specs.trace_book.trace_serving.{Serving, Outcome, served_text, last_stage}

-- the event that a line brings to the world
abbrev pub event_of : TraceLine → Option WorldEvent
event_of (live_line id hex) = Some (Hub (hub.Live id (bytes_in hex)))
event_of (feedback_line id client hex) = Some (Hub (hub.Feedback id client (bytes_in hex)))
event_of tick_line = Some (Hub hub.Tick)
event_of (tune_line id client ssrc) = Some (Tune id client ssrc)
event_of (give_line number) = Some (Give number)
event_of (mcast_line id client n) = Some (Mcast id client n)
event_of (ask_line id client) = Some (Ask id client)
event_of (drop_line id client) = Some (Drop id client)
event_of _ = None

-- most events of a trace
abbrev pub most_events : ℕ
most_events = 100000

-- most datagrams that are sent in a world, by the server and by receivers
abbrev pub most_datagrams : ℕ
most_datagrams = 400000

-- A trace is served by a world, whose channels stand in the order of their lines.
abbrev pub meet : Serving World WorldEvent
meet = record {
  mode = Meet;
  most = most_events;
  first_line = first_line;
  start = new_world [];
  event_of = event_of;
  opened = λ settings w. record w { channels = w.channels ++ served settings [] ∷ [] };
  after = λ e w. (happens e w).world;
  text = event_lines;
  fits = λ w. nat_le (length w.datagrams) most_datagrams;
}

-- how the trace ends, and its text
abbrev pub meet_text : List ℕ → Outcome
meet_text trace = served_text meet trace

-- the world that a trace is served by
abbrev pub world_of : List ℕ → World
world_of trace = (last_stage meet trace).state
