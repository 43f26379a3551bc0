-- What contracts see of a world, and the world that it stands for.
use Rattle.std.specs.Prelude.{◌≡◌, ℕ, suc, ◌≤◌, Bool, false, ◌&&◌, ◌==◌, if◌then◌else◌, List, [], ◌∷◌, ◌++◌, map, Option, Some, None, option_map, is_some, All, slice_get, nat_lt}
use Rattle.std.specs.Option.{option_and_then}
use Rattle.rams_model.specs.declared.{LiveNote.TheVariants.Took, LiveNote.TheVariants.Restart, Note.Note, Note.TheVariants.Live}
use Rattle.server_hub.specs.declared.{At.At, HubEvent.HubEvent}
use Rattle.server_hub.specs.declared.HubEvent.TheVariants as hub
use Rattle.server_hub.specs.{Pairwise, channel_of, served, answers_said, hi_of}
use Rattle.server_hub.specs.Served.{Served, Told}
use Rattle.server_hub.specs.Seen as hubs
use Rattle.rams_model.specs.Service.{Settings}
use Rattle.meet_loop.specs.world_laws.{as_it_came}
use Rattle.meet_loop.specs.world_laws.World.{Datagram, Listener, World, Step}
use Rattle.meet_loop.specs.declared.{world_laws.world.WorldNote.WorldNote, world_net.parts.Parts.Parts, world_net.seat.Seat.Seat}
use Rattle.meet_loop.specs.world_net.Seats.{Follows, HasFew}
use Rattle.meet_loop.specs.world_net.Pairs.{at_pair}
use Rattle.meet_loop.specs.world_net.Runs.{Packed, packet_in}

-- what a world keeps
pub record Kept : Type 0 where
  pub hub : hubs.Seen
  -- live packets as they came
  pub packets : Packed
  pub parcels : List Datagram
  -- where the receivers are, by their channel's number and their client
  pub places : List ((ℕ × ℕ) × ℕ)
  pub seats : List Seat

abbrev pub kept_of : Parts → Kept
kept_of v = record { hub = v.hub; packets = v.packets; parcels = v.parcels.items; places = v.places; seats = v.seats.items }

pub record Seen : Type 0 where
  pub kept : Kept
  -- an event was cut off
  pub cut_off : Bool

-- a place whose receiver hasn't left
abbrev pub if_there : ℕ → Option Seat → Option ℕ
if_there place None = None
if_there place (Some s) = if is_some s.receiver then Some place else None

-- where a client's receiver of a channel is, unless it left
abbrev pub listening_at : Kept → ℕ → ℕ → Option ℕ
listening_at v id client = option_and_then (λ place. if_there place (slice_get v.seats place)) (at_pair v.places id client)

-- the number under which a live packet was taken, by the notes of its channel
abbrev pub number_taken : List Note → Option ℕ
number_taken (Live (Took n) ∷ notes) = Some n
number_taken (Live (Restart n) ∷ notes) = Some n
number_taken _ = None

abbrev pub number_in : List At → Option ℕ
number_in (at ∷ []) = number_taken at.answer.notes
number_in _ = None

abbrev pub taken_number : Told → Option ℕ
taken_number t = number_in (answers_said t)

-- what a channel's packet of this number came as
abbrev pub came_at : Option Served → ℕ → Option (List ℕ)
came_at None n = None
came_at (Some c) n = as_it_came c.settings c.events n

-- Of each client and channel: the place of the receiver that was tuned first.
unfoldable pub place_of : ℕ → ℕ → List (ℕ × ℕ) → Option ℕ
place_of id client [] = None
place_of id client (k ∷ ks) = if k.0 == id && k.1 == client then Some 0 else option_map (λ place. suc place) (place_of id client ks)

-- a listener's channel and client
abbrev pub key_of : Listener → ℕ × ℕ
key_of l = (l.id, l.tuned.client)

-- no client is tuned to a channel twice
abbrev pub AreApart : List (ℕ × ℕ) → Type 0
AreApart [] = Unit {0}
AreApart (k ∷ ks) = (place_of k.0 k.1 ks ≡ None) × AreApart ks

-- What is kept stands for a world.
pub record KeptFor (v : Kept) (w : World) : Type 0 where
  pub hub : hubs.StandsFor v.hub w.channels
  pub packets : (id n : ℕ) → packet_in v.packets id n ≡ came_at (channel_of id w.channels) n
  pub parcels : v.parcels ≡ w.datagrams
  pub places : (id client : ℕ) → at_pair v.places id client ≡ place_of id client (map key_of w.listeners)
  pub apart : AreApart (map key_of w.listeners)
  pub seats : Pairwise Follows v.seats w.listeners

abbrev pub Stands : Parts → World → Type 0
Stands v w = KeptFor (kept_of v) w

-- The world stands for this one, and no event was cut off.
pub record StandsFor (v : Seen) (w : World) : Type 0 where
  pub whole : v.cut_off ≡ false
  pub kept : KeptFor v.kept w

-- The world's next step was taken: this was said, behind what had been.
pub record Goes (s : Step) (old new : List WorldNote) (v : Parts) : Type 0 where
  pub notes : new ≡ old ++ s.notes
  pub stands : Stands v s.world

-- No more came to the hub, and to each receiver, than so many.
pub record CameAtMost (n : ℕ) (v : Kept) : Type 0 where
  pub hub : v.hub.calls ≤ n
  pub seats : All (HasFew n) v.seats

abbrev pub AreFew : ℕ → Parts → Type 0
AreFew n v = CameAtMost n (kept_of v)

-- a world with one more channel, to which nothing came
abbrev pub with_channel : Settings → World → World
with_channel s w = record w { channels = w.channels ++ served s [] ∷ [] }

-- Beside what some entries have, others have these bytes at a pair of numbers, where there is one.
abbrev pub Keeps : ℕ → List ℕ → Option ℕ → (ℕ → ℕ → Option (List ℕ)) → (ℕ → ℕ → Option (List ℕ)) → Type 0
Keeps id bytes None old new = (i m : ℕ) → new i m ≡ old i m
Keeps id bytes (Some n) old new = (i m : ℕ) → new i m ≡ (if id == i && n == m then Some bytes else old i m)

-- that, of a live packet; of all else nothing is kept
abbrev pub KeepsHeard : HubEvent → Told → (ℕ → ℕ → Option (List ℕ)) → (ℕ → ℕ → Option (List ℕ)) → Type 0
KeepsHeard (hub.Live id bytes) t old new = Keeps id bytes (taken_number t) old new
KeepsHeard _ t old new = (i m : ℕ) → new i m ≡ old i m

-- what a channel's end is, and that the channel has room for a packet
pub record EndsAt (hi : ℕ) (o : Option Served) : Type 0 where
  pub channel : Served
  pub is_it : o ≡ Some channel
  pub end : hi ≡ hi_of channel
  pub room : 1 ≤ channel.settings.channel.ring

abbrev pub EndsSo : Option ℕ → Option Served → Type 0
EndsSo None o = o ≡ None
EndsSo (Some hi) o = EndsAt hi o

-- what came under a number, where that is below another
abbrev pub packet_below : Option (List ℕ) → ℕ → ℕ → Option (List ℕ)
packet_below came n hi = if nat_lt n hi then came else None
