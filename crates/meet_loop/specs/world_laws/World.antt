-- A world: the channels of a server, the datagrams that were sent, and the receivers that were tuned.
use Rattle.std.specs.Prelude.{ℕ, Bool, ◌&&◌, ◌==◌, not, if◌then◌else◌, List, [], ◌∷◌, Option, find}
use Rattle.std.specs.List.{slice_get}
use Rattle.rams_model.specs.declared.Tuned.{Tuned}
use Rattle.rams_model.specs.Receiver.{Turn}
use Rattle.server_hub.specs.Served.{Served}
use Rattle.meet_loop.specs.declared.{world_laws.world.WorldItem.WorldItem, world_laws.world.WorldNote.WorldNote}

-- Why a datagram was sent.
pub data Way : Type 0 where
  -- a receiver posted it to the feedback target (RFC 4585)
  posts : Way
  -- the server tells of a burst, in a RAMS-I (RFC 6285, 7.3)
  tells : Way
  -- the server sends the source's packet of this number again (RFC 4588)
  repeats : ℕ → Way

pub record Datagram : Type 0 where
  -- the channel's number
  pub id : ℕ
  pub client : ℕ
  pub way : Way
  pub bytes : List ℕ

-- A receiver that was tuned to a channel.
pub record Listener : Type 0 where
  -- the channel's number
  pub id : ℕ
  pub tuned : Tuned
  -- the newest first
  pub turns : List Turn
  pub left : Bool

pub record World : Type 0 where
  pub channels : List Served
  -- in the order in which they were sent: a datagram's number is its place
  pub datagrams : List Datagram
  -- in the order in which they were tuned
  pub listeners : List Listener

-- channels, to which no receiver was tuned
abbrev pub new_world : List Served → World
new_world channels = record { channels = channels; datagrams = []; listeners = [] }

abbrev pub datagram_at : ℕ → World → Option Datagram
datagram_at number w = slice_get w.datagrams number

-- a receiver of this client, tuned to the channel of this number
abbrev pub is_listener : ℕ → ℕ → Listener → Bool
is_listener id client l = l.id == id && l.tuned.client == client

-- that hasn't left
abbrev pub listens : ℕ → ℕ → Listener → Bool
listens id client l = is_listener id client l && not l.left

abbrev pub listener_of : ℕ → ℕ → World → Option Listener
listener_of id client w = find (listens id client) w.listeners

-- the first that passes a test, with another in its place
unfoldable pub first_replaced : {A : Type 0} → (A → Bool) → A → List A → List A
first_replaced test new [] = []
first_replaced test new (x ∷ xs) = if test x then new ∷ xs else x ∷ first_replaced test new xs

-- an event's outcome: the world after it, and what is said of it, in order
pub record Step : Type 0 where
  pub world : World
  pub notes : List WorldNote

abbrev pub step : World → List WorldNote → Step
step world notes = record { world = world; notes = notes }

abbrev pub note : ℕ → WorldItem → WorldNote
note id item = record { id = id; item = item }

-- an event that is refused changes nothing
abbrev pub refused : World → ℕ → WorldItem → Step
refused w id item = step w (note id item ∷ [])
