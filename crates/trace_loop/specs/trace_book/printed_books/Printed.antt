-- What `run` prints for the events of a trace, channel by channel.
use Rattle.std.specs.Prelude.{◌≡◌, ℕ, ◌+◌, ◌==◌, Bool, true, if◌then◌else◌, List, [], ◌∷◌, ◌++◌, length, map, All}
use Rattle.std.specs.List.{flat_map, list_any, AllByRecursion as Each}
use Rattle.rams_model.specs.declared.Event.{Event}
use Rattle.rams_model.specs.declared.Event.TheVariants as event
use Rattle.rams_model.specs.Service.{Settings, Book, book}
use Rattle.rams_model.specs.Texts.{answer_text, book_lines}
use Rattle.book_text.specs.{no_channel_line}
use Rattle.server_hub.specs.declared.HubEvent.{HubEvent}
use Rattle.server_hub.specs.declared.HubEvent.TheVariants.{Live, Feedback, Tick}
use Rattle.server_hub.specs.{served, id_of, events_of, after_events}
use Rattle.server_hub.specs.Served.{Served}
use Rattle.trace_loop.specs.trace_book.{served_by, came, new_channels, channel_text, event_text}

-- whether an event comes to the channel of this number: its own live packet or feedback datagram, or a tick
abbrev pub comes_to : ℕ → HubEvent → Bool
comes_to id (Live other bytes) = id == other
comes_to id (Feedback other client bytes) = id == other
comes_to id Tick = true

-- the numbers of the events that come to it, newest first, where all events are counted from 1
unfoldable pub places : ℕ → List HubEvent → List ℕ
places id [] = []
places id (e ∷ events) = if comes_to id e then (length events + 1) ∷ places id events else places id events

-- the lines of a book whose entries are the events of these numbers, both newest first
unfoldable pub numbered_lines : Settings → List ℕ → Book → List ℕ
numbered_lines s [] entries = []
numbered_lines s (n ∷ ns) [] = []
numbered_lines s (n ∷ ns) (e ∷ before) = numbered_lines s ns before ++ answer_text s n e.answer

-- the event as its channel has it
abbrev pub own_event : HubEvent → Event
own_event (Live id bytes) = event.Live bytes
own_event (Feedback id client bytes) = event.Feedback client bytes
own_event Tick = event.Tick

-- the lines of a channel for the event of this number, where it comes to it
abbrev pub heard_lines : ℕ → HubEvent → Served → List ℕ
heard_lines number e c = if comes_to (id_of c) e then channel_text number (own_event e) c else []

-- the line that says that there is no channel of the number that the event names, where there is none
abbrev pub unheard_line : ℕ → HubEvent → List Served → List ℕ
unheard_line number (Live id bytes) channels = if list_any (λ c. id_of c == id) channels then [] else no_channel_line number id
unheard_line number (Feedback id client bytes) channels = if list_any (λ c. id_of c == id) channels then [] else no_channel_line number id
unheard_line number Tick channels = []

-- the lines of a channel with these settings for all of some events, the newest first
unfoldable pub own_lines : Settings → List HubEvent → List ℕ
own_lines s [] = []
own_lines s (e ∷ events) = own_lines s events ++ heard_lines (length events + 1) e (served s (events_of s.channel.id events))

-- the channels when these events had come, the newest first
abbrev pub channels_at : List Served → List HubEvent → List Served
channels_at channels events = map (λ c. served c.settings (events_of (id_of c) events)) channels

-- What is printed for a trace are the lines of its channels' books.
pub record PrintsItsBooks (trace : List ℕ) : Type 0 where
  -- for an event: the lines of each channel that it comes to, by what came to it before, channel by channel
  pub each : (later earlier : List HubEvent) (e : HubEvent) → came trace ≡ later ++ (e ∷ earlier)
      → event_text (length earlier + 1) e (after_events earlier (new_channels (served_by trace)))
      ≡ unheard_line (length earlier + 1) e (channels_at (served_by trace) earlier) ++ flat_map (heard_lines (length earlier + 1) e) (channels_at (served_by trace) earlier)
  -- for a channel, in all: the lines of its one lawful book, under the numbers of its events in the trace
  pub own : All (λ c. own_lines c.settings (came trace) ≡ numbered_lines c.settings (places (id_of c) (came trace)) (book c.settings c.events)) (served_by trace)

abbrev pub BooksArePrinted : Type 0
BooksArePrinted = (trace : List ℕ) → PrintsItsBooks trace

-- Where each event comes to the channel, the numbers are its own count.
abbrev pub ABookAloneIsPrinted : Type 0
ABookAloneIsPrinted = (s : Settings) (events : List HubEvent) → Each (λ e. comes_to s.channel.id e ≡ true) events → own_lines s events ≡ book_lines s (book s (events_of s.channel.id events))
