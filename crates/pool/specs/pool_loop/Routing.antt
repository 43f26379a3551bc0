-- What a trace for a pool brings, and to which channels its events go.
use Rattle.std.specs.Prelude.{ℕ, ◌==◌, Bool, List, [], ◌∷◌, ◌++◌, map, reverse}
use Rattle.rams_model.specs.declared.Mode.TheVariants.{Run}
use Rattle.server_hub.specs.declared.HubEvent.{HubEvent}
use Rattle.server_hub.specs.declared.HubEvent.TheVariants.{Live, Feedback, Tick}
use Rattle.server_hub.specs.{served, after_event}
use Rattle.server_hub.specs.Served.{Served}
use Rattle.trace_loop.specs.trace_book.trace_serving.{Serving}
use Rattle.trace_loop.specs.trace_book.{event_of}
use Rattle.pool.specs.declared.{pool_loop.dealing.Coming.Coming, pool_loop.routes.Route.Route}
use Rattle.pool.specs.declared.pool_loop.routes.Route.TheVariants.{To, Everyone}

-- A trace for a pool is served as by `run`, but it has 200,000 events at most, and nothing is written for an event while it is read.
abbrev pub pool : Serving (List Served) HubEvent
pool = record {
  mode = Run;
  most = 200000;
  first_line = [];
  start = [];
  event_of = event_of;
  opened = λ settings channels. channels ++ served settings [] ∷ [];
  after = after_event;
  text = λ number e channels. [];
  fits = λ channels. Bool.true;
}

-- where an event goes
abbrev pub route_of : HubEvent → Route
route_of (Live id bytes) = To id
route_of (Feedback id client bytes) = To id
route_of Tick = Everyone

-- whether it goes to the channel of this number
abbrev pub reaches : Route → ℕ → Bool
reaches (To other) id = id == other
reaches Everyone id = Bool.true

-- an event that goes to every channel
abbrev pub is_for_all : Route → Bool
is_for_all (To id) = Bool.false
is_for_all Everyone = Bool.true

-- a channel, and what came to it
abbrev pub served_so : Coming → Served
served_so c = served c.config (reverse c.events.items)

abbrev pub all_served : List Coming → List Served
all_served channels = map served_so channels
