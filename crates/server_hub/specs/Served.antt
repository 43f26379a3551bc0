-- The channels of a server: what came to each, and what they answer.
use Rattle.std.specs.Prelude.{ℕ, ◌==◌, if◌then◌else◌, List, [], ◌∷◌, map, find, Option, Some, None, option_map}
use Rattle.rams_model.specs.declared.{Event.Event, Held.Held}
use Rattle.rams_model.specs.declared.Event.TheVariants as event
use Rattle.rams_model.specs.Service.{Answered, Settings, hold, history_of, answer}
use Rattle.rams_model.specs.Packets.{hi}
use Rattle.channel_cache.specs.packet_ring.{packet_of}
use Rattle.server_hub.specs.declared.{event.At.At, event.Heard.Heard, event.HubAnswer.HubAnswer, event.HubEvent.HubEvent}
use Rattle.server_hub.specs.declared.event.Heard.TheVariants as heard
use Rattle.server_hub.specs.declared.event.HubAnswer.TheVariants as answers
use Rattle.server_hub.specs.declared.event.HubEvent.TheVariants.{Live, Feedback, Tick}

-- A channel: its settings, and what came to it.
pub record Served : Type 0 where
  pub settings : Settings
  -- the newest first
  pub events : List Event

abbrev pub served : Settings → List Event → Served
served settings events = record { settings = settings; events = events }

-- the channel's number
abbrev pub id_of : Served → ℕ
id_of c = c.settings.channel.id

-- the channel after one more event
abbrev pub with_event : Event → Served → Served
with_event e c = served c.settings (e ∷ c.events)

-- what the channel answers to an event
abbrev pub answer_to : Event → Served → Answered
answer_to e c = answer c.settings c.events e

-- one above the number of the newest packet that the channel holds; 0 while it holds none
abbrev pub hi_of : Served → ℕ
hi_of c = hi (hold c.settings (history_of c.settings c.events))

-- the packet that the channel holds under a number
abbrev pub held_of : ℕ → Served → Option Held
held_of n c = packet_of n (hold c.settings (history_of c.settings c.events))

-- the channel of this number
abbrev pub channel_of : ℕ → List Served → Option Served
channel_of id channels = find (λ c. id_of c == id) channels

-- An event of the channel of this number: that channel alone is changed, and answers.
abbrev pub after_event_of : ℕ → Event → List Served → List Served
after_event_of id e channels = map (λ c. if id_of c == id then with_event e c else c) channels

abbrev pub answer_of : ℕ → Event → List Served → Option Answered
answer_of id e channels = option_map (answer_to e) (channel_of id channels)

-- A tick comes to every channel, and each answers, in their order.
abbrev pub after_tick : List Served → List Served
after_tick channels = map (with_event event.Tick) channels

-- a channel's answer, under its number
abbrev pub answer_at : Event → Served → At
answer_at e c = record { id = id_of c; answer = answer_to e c }

abbrev pub answers_to_tick : List Served → List At
answers_to_tick channels = map (answer_at event.Tick) channels

-- the event that is heard
abbrev pub event_of : Heard → HubEvent
event_of (heard.Live id bytes) = Live id bytes.now
event_of (heard.Feedback id client bytes) = Feedback id client bytes.now
event_of heard.Tick = Tick

-- the channels after an event of the server
abbrev pub after_event : HubEvent → List Served → List Served
after_event (Live id bytes) channels = after_event_of id (event.Live bytes) channels
after_event (Feedback id client bytes) channels = after_event_of id (event.Feedback client bytes) channels
after_event Tick channels = after_tick channels

-- What the server says to an event.
pub data Told : Type 0 where
  -- it has no channel of this number
  no_channel : ℕ → Told
  -- its channels answer this
  says : List At → Told

-- an answer of the hub as what it says
abbrev pub told : HubAnswer → Told
told (answers.NoChannel id) = no_channel id
told (answers.Answer at) = says (at ∷ [])
told (answers.Answers all) = says all.items

-- what is said of the answer of one channel, where there is one
abbrev pub told_of : ℕ → Option Answered → Told
told_of id None = no_channel id
told_of id (Some a) = says (record { id = id; answer = a } ∷ [])

-- what the server says to an event, after what came to its channels
abbrev pub told_to : HubEvent → List Served → Told
told_to (Live id bytes) channels = told_of id (answer_of id (event.Live bytes) channels)
told_to (Feedback id client bytes) channels = told_of id (answer_of id (event.Feedback client bytes) channels)
told_to Tick channels = says (answers_to_tick channels)
