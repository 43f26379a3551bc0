-- The lines that `run` writes for an event, channel by channel.
use Rattle.std.specs.Prelude.{◌≡◌, ℕ, ◌+◌, List, [], ◌∷◌, ◌++◌, map, Option, Some, None}
use Rattle.std.specs.List.{flat_map}
use Rattle.rams_model.specs.declared.{Event.Event, Order.Order, Note.Note}
use Rattle.rams_model.specs.Service.{Answered, Settings}
use Rattle.rams_model.specs.Texts.{note_line, order_line, answer_text}
use Rattle.server_hub.specs.declared.HubEvent.{HubEvent}
use Rattle.server_hub.specs.declared.HubEvent.TheVariants.{Live, Feedback, Tick}
use Rattle.server_hub.specs.Served.{Served}
use Rattle.server_hub.specs.{channel_of, after_event}
use Rattle.book_text.specs.{no_channel_line}
use Rattle.trace_loop.specs.trace_book.{channel_text, event_text}
use Rattle.trace_loop.specs.journal_book.Sent.{own_event}

-- the lines of what a channel answers to the event of this number, where it comes to the channel
abbrev pub own_text : ℕ → Option Event → Served → List ℕ
own_text number None c = []
own_text number (Some e) c = channel_text number e c

-- those of all channels, in their order
abbrev pub own_texts : ℕ → HubEvent → List Served → List ℕ
own_texts number event channels = flat_map (λ c. own_text number (own_event event c) c) channels

-- the line of an event whose channel there may not be
abbrev pub absent_text : ℕ → ℕ → Option Served → List ℕ
absent_text number id None = no_channel_line number id
absent_text number id (Some c) = []

-- the line of an event of no channel
abbrev pub unheard_text : ℕ → HubEvent → List Served → List ℕ
unheard_text number (Live id bytes) channels = absent_text number id (channel_of id channels)
unheard_text number (Feedback id client bytes) channels = absent_text number id (channel_of id channels)
unheard_text number Tick channels = []

-- What `run` writes for these events, the oldest first, where so many were counted before.
unfoldable pub text_for : ℕ → List Served → List HubEvent → List ℕ
text_for count channels [] = []
text_for count channels (event ∷ events) = event_text (count + 1) event channels ++ text_for (count + 1) (after_event event channels) events

-- The lines of an answer to the event of this number: each note's own, and then those of the datagrams that it asks for. So each datagram of the answer has one line, and they stand in its order.
pub record WritesItsDatagrams (s : Settings) (number : ℕ) (a : Answered) : Type 0 where
  pub entries : List (Note × List Order)
  pub notes : map (λ x. x.0) entries ≡ a.notes
  pub orders : flat_map (λ x. x.1) entries ≡ a.orders
  pub text : answer_text s number a ≡ flat_map (λ x. note_line number s.channel.id x.0 ++ flat_map (order_line s number) x.1) entries
