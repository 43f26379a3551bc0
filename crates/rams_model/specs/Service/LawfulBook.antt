-- The one lawful book of a channel: what it answers to each event, on what came before.
use Rattle.std.specs.Prelude.{◌≡◌, List, [], ◌∷◌, map, None}
use Rattle.rams_model.specs.declared.{event.Event.Event, note.Note.TheVariants.Live as LiveNoted, note.Note.TheVariants.BadFeedback}
use Rattle.rams_model.specs.Service.EventAnswer.{Answered}
use Rattle.rams_model.specs.Service.ChannelSettings.{Settings}
use Rattle.rams_model.specs.Packets.{live_note}
use Rattle.rams_model.specs.Service.HeardEvents.{Heard, live, dropped, feedback, unframed, tick, heard_of}
use Rattle.rams_model.specs.Service.ChannelHistory.{began, noted, History, stream}
use Rattle.rams_model.specs.Service.Answers.{after_messages}
use Rattle.rams_model.specs.Service.Tick.{after_tick}
use Rattle.rams_model.specs.Service.Orders.{newest_answer}

-- the history after an event that was heard, its notes included
unfoldable pub after_hearing : Settings → Heard → History → History
after_hearing s (live a) history = noted (LiveNoted (live_note s.channel.window (stream s history) a.sequence)) None ∷ began (live a) ∷ history
after_hearing s (dropped note) history = noted (LiveNoted note) None ∷ began (dropped note) ∷ history
after_hearing s (feedback client messages) history = after_messages s client messages (began (feedback client messages) ∷ history)
after_hearing s (unframed client fault) history = noted (BadFeedback client fault) None ∷ began (unframed client fault) ∷ history
after_hearing s tick history = after_tick s (began tick ∷ history)

-- The history after an event.
abbrev pub after : Settings → Event → History → History
after s event history = after_hearing s (heard_of s.channel event) history

-- The history of some events, the newest first.
unfoldable pub history_of : Settings → List Event → History
history_of s [] = []
history_of s (event ∷ events) = after s event (history_of s events)

-- The one lawful answer to an event after these.
abbrev pub answer : Settings → List Event → Event → Answered
answer s events event = newest_answer s (history_of s (event ∷ events))

-- an event and what was answered to it
pub record Entry : Type 0 where
  pub event : Event
  pub answer : Answered

-- A book: its entries, the newest first.
abbrev pub Book : Type 0
Book = List Entry

-- the events of a book
abbrev pub events_of : Book → List Event
events_of entries = map (λ e. e.event) entries

-- A book is lawful where each answer is the one that its event has after the events before it.
abbrev pub IsLawful : Settings → Book → Type 0
IsLawful s [] = Unit {0}
IsLawful s (e ∷ before) = (e.answer ≡ answer s (events_of before) e.event) × IsLawful s before

-- The lawful book of some events.
unfoldable pub book : Settings → List Event → Book
book s [] = []
book s (event ∷ events) = (record { event = event; answer = answer s events event }) ∷ book s events
