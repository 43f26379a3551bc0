-- The datagrams that a server sends for its events.
use Rattle.std.specs.Prelude.{◌≢◌, AllPairs, ℕ, ◌+◌, ◌==◌, if◌then◌else◌, List, [], ◌∷◌, ◌++◌, map, Option, Some, None}
use Rattle.rams_model.specs.declared.Event.{Event}
use Rattle.rams_model.specs.declared.Event.TheVariants as event
use Rattle.rams_model.specs.Service.{Answered, Settings, client_of, datagram}
use Rattle.ram_io.specs.{Outgoing, outgoing}
use Rattle.server_hub.specs.declared.{HubEvent.HubEvent}
use Rattle.server_hub.specs.declared.HubEvent.TheVariants.{Live, Feedback, Tick}
use Rattle.server_hub.specs.Served.{Served}
use Rattle.server_hub.specs.{id_of, ids_of, answer_to, after_event}
use Rattle.trace_loop.specs.trace_book.Stages.{settings_of}

-- no two of these channels have one number
abbrev pub AreApart : List Served → Type 0
AreApart channels = AllPairs (λ x y. x ≢ y) (ids_of (settings_of channels))

-- the event as the channel has it, where it comes to the channel: a tick comes to each, a datagram to the channel that it names
abbrev pub own_event : HubEvent → Served → Option Event
own_event (Live id bytes) c = if id_of c == id then Some (event.Live bytes) else None
own_event (Feedback id client bytes) c = if id_of c == id then Some (event.Feedback client bytes) else None
own_event Tick c = Some event.Tick

-- the datagrams of an answer, in order: each from this port to its client
abbrev pub answer_datagrams : ℕ → Settings → Answered → List Outgoing
answer_datagrams port s a = map (λ order. outgoing (client_of order) port (datagram s order)) a.orders

-- those of what a channel answers, where the event comes to it
abbrev pub own_datagrams : ℕ → Option Event → Served → List Outgoing
own_datagrams port None c = []
own_datagrams port (Some e) c = answer_datagrams port c.settings (answer_to e c)

-- The datagrams that these channels send for an event, channel by channel, where the first of them has this feedback port, and each the one two above that of the channel in front of it.
abbrev pub datagrams_of : ℕ → HubEvent → List Served → List Outgoing
datagrams_of port event [] = []
datagrams_of port event (c ∷ channels) = own_datagrams port (own_event event c) c ++ datagrams_of (port + 2) event channels

-- what they send for these events, the oldest first
unfoldable pub sent_for : ℕ → List Served → List HubEvent → List Outgoing
sent_for port channels [] = []
sent_for port channels (event ∷ events) = datagrams_of port event channels ++ sent_for port (after_event event channels) events
