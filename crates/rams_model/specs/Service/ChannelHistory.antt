-- What came to a channel and what it noted of that, newest first. All that the channel knows is read off this one list.
use Rattle.std.specs.Prelude.{ℕ, List, [], ◌∷◌, Option}
use Rattle.rams_model.specs.declared.{held.Held.Held, note.Note.Note}
use Rattle.rams_model.specs.Service.ChannelSettings.{Settings}
use Rattle.rams_model.specs.Packets.{Arrival, Stream, stream_of}
use Rattle.rams_model.specs.Packets.Source as sources
use Rattle.rams_model.specs.Service.Messages.{Message}
use Rattle.rams_model.specs.Service.HeardEvents.{Heard, live, tick}

-- What a history is made of.
pub data Item : Type 0 where
  -- an event began
  began : Heard → Item
  -- a message of this client is answered from here on
  told : ℕ → Message → Item
  -- a note was made, with the packet that it sends
  noted : Note → Option Held → Item

-- A history: its items, the newest first.
abbrev pub History : Type 0
History = List Item

-- the live packets that passed the four tests, newest first
unfoldable pub arrivals : History → List Arrival
arrivals [] = []
arrivals (began (live a) ∷ history) = a ∷ arrivals history
arrivals (_ ∷ history) = arrivals history

-- the packets that came in time
abbrev pub stream : Settings → History → Stream
stream s history = stream_of s.channel.window (arrivals history)

-- what is held of them
abbrev pub hold : Settings → History → List Held
hold s history = sources.hold s.channel.window s.channel.ring (stream s history)

-- the history as the present tick began; nothing where no tick did
unfoldable pub as_tick_began : History → History
as_tick_began [] = []
as_tick_began (began tick ∷ history) = began tick ∷ history
as_tick_began (_ ∷ history) = as_tick_began history
