-- Which events come to each channel of a server.
use Rattle.std.specs.Prelude.{◌≡◌, ℕ, ◌==◌, if◌then◌else◌, List, [], ◌∷◌, ◌++◌, map}
use Rattle.rams_model.specs.declared.Event.{Event}
use Rattle.rams_model.specs.declared.Event.TheVariants as event
use Rattle.server_hub.specs.declared.event.HubEvent.{HubEvent}
use Rattle.server_hub.specs.declared.event.HubEvent.TheVariants.{Live, Feedback, Tick}
use Rattle.server_hub.specs.Served.{Served, served, id_of}
use Rattle.server_hub.specs.Sent.{after_events}

-- the events of a channel among those of the server: its own live packets and feedback datagrams, and each tick
unfoldable pub events_of : ℕ → List HubEvent → List Event
events_of id [] = []
events_of id (Live other bytes ∷ events) = if id == other then event.Live bytes ∷ events_of id events else events_of id events
events_of id (Feedback other client bytes ∷ events) = if id == other then event.Feedback client bytes ∷ events_of id events else events_of id events
events_of id (Tick ∷ events) = event.Tick ∷ events_of id events

-- After these events of the server each channel has had those of its own, in their order: the ticks of all channels are the same.
abbrev pub EachChannelGetsItsEvents : Type 0
EachChannelGetsItsEvents =
    (events : List HubEvent) (channels : List Served) → after_events events channels ≡ map (λ c. served c.settings (events_of (id_of c) events ++ c.events)) channels
