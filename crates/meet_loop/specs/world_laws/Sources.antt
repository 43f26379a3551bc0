-- The source of a channel, and the bytes of its packets as they came.
use Rattle.std.specs.Prelude.{◌≡◌, ℕ, Bool, false, ◌==◌, if◌then◌else◌, List, [], ◌∷◌, Option, Some, None}
use Rattle.rams_model.specs.declared.{Channel.Channel, Event.Event, Event.TheVariants.Live, Held.Held, LiveNote.LiveNote}
use Rattle.rams_model.specs.declared.{LiveNote.TheVariants.Took, LiveNote.TheVariants.Restart, Tuned.Tuned}
use Rattle.rams_model.specs.Service.{Settings, Heard, live, heard_of, stream, history_of}
use Rattle.rams_model.specs.Packets.{Stream, has_number, live_note}
use Rattle.rams_model.specs.Laws.{source}
use Rattle.server_hub.specs.Served.{Served}

-- the source list of a channel, after all that came to it
abbrev pub source_of : Served → List Held
source_of c = source c.settings (history_of c.settings c.events)

-- the note says that a packet was taken under this number
abbrev pub takes : ℕ → LiveNote → Bool
takes n (Took m) = m == n
takes n (Restart m) = m == n
takes n _ = false

-- what is heard is a packet that is taken under this number
abbrev pub hears_number : Settings → Stream → ℕ → Heard → Bool
hears_number s before n (live a) = takes n (live_note s.channel.window before a.sequence)
hears_number s before n _ = false

-- The bytes, with their padding, of the live event whose packet was taken under this number. No number is taken twice.
unfoldable pub as_it_came : Settings → List Event → ℕ → Option (List ℕ)
as_it_came s [] n = None
as_it_came s (Live bytes ∷ events) n =
    if hears_number s (stream s (history_of s events)) n (heard_of s.channel (Live bytes)) then Some bytes else as_it_came s events n
as_it_came s (event ∷ events) n = as_it_came s events n

-- The packet of the source with this number, where it has one, as it came.
abbrev pub packet_of_source : Served → ℕ → Option (List ℕ)
packet_of_source c n = if has_number n (source_of c) then as_it_came c.settings c.events n else None

-- a receiver has the media source and the payload types of the channel
pub record IsTunedTo (c : Channel) (t : Tuned) : Type 0 where
  pub media : t.media ≡ c.ssrc
  pub pt : t.pt ≡ c.pt
  pub rtx : t.rtx ≡ c.rtx
