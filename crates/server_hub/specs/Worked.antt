-- A worked example: two channels, events of each, of another number, and a tick. The checker computes it.
use Rattle.std.specs.Prelude.{◌≡◌, ℕ, true, List, [], ◌∷◌, map, Option, Some, None}
use Rattle.rams_model.specs.declared.{Event.Event, Note.Note, LiveNote.TheVariants.Took}
use Rattle.rams_model.specs.declared.Event.TheVariants as event
use Rattle.rams_model.specs.declared.Note.TheVariants.{Live as LiveNoted, Accept, Burst}
use Rattle.rams_model.specs.Service.{settings}
use Rattle.rams_model.specs.Worked.Setting.{channel, packet}
use Rattle.server_hub.specs.declared.event.HubEvent.{HubEvent}
use Rattle.server_hub.specs.declared.event.HubEvent.TheVariants.{Live, Feedback, Tick}
use Rattle.server_hub.specs.Served.{Served, served, Told, no_channel, says, told_to, after_event}

-- an event of the channel of this number
abbrev pub of_channel : ℕ → Event → HubEvent
of_channel id (event.Live bytes) = Live id bytes
of_channel id (event.Feedback client bytes) = Feedback id client bytes
of_channel id event.Tick = Tick

-- the notes that are said, each channel's under its number; nothing where there is no channel
abbrev pub notes_said : Told → Option (List (ℕ × List Note))
notes_said (no_channel id) = None
notes_said (says all) = Some (map (λ x. (x.id, x.answer.notes)) all)

-- what is said to these events, the oldest first
unfoldable pub all_said : List HubEvent → List Served → List (Option (List (ℕ × List Note)))
all_said [] channels = []
all_said (event ∷ events) channels = notes_said (told_to event channels) ∷ all_said events (after_event event channels)

-- a RAMS-R of client 5 without TLVs (RFC 6285, 7.2): sender 0000c001, media source 11223344
abbrev pub request : Event
request =
    event.Feedback 5 (
    0x86 ∷ 0xcd ∷ 0 ∷ 3 ∷ 0 ∷ 0 ∷ 0xc0 ∷ 1 ∷ 0x11 ∷ 0x22 ∷ 0x33 ∷ 0x44 ∷ 1 ∷ 0 ∷ 0 ∷ 0 ∷ [])

-- a channel of this number with ticks of 10 ms, and without events
abbrev pub new_channel : ℕ → Served
new_channel id = served (settings (record channel { id = id }) 10) []

abbrev pub EventsGoToTheirChannels : Type 0
EventsGoToTheirChannels =
    all_said (
    of_channel 7 (packet 10 0 true 4)
    ∷ of_channel 8 (packet 20 0 true 4)
    ∷ of_channel 9 (packet 10 0 true 4)
    ∷ of_channel 7 request
    ∷ of_channel 9 request
    ∷ Tick
    ∷ []) (new_channel 7 ∷ new_channel 8 ∷ [])
    ≡ Some ((7, LiveNoted (Took 65546) ∷ []) ∷ [])
    ∷ Some ((8, LiveNoted (Took 65556) ∷ []) ∷ [])
    ∷ None
    ∷ Some ((7, Accept 5 65546 4000 1 ∷ []) ∷ [])
    ∷ None
    ∷ Some ((7, Burst 5 65546 500 ∷ []) ∷ (8, []) ∷ [])
    ∷ []
