-- What contracts see of a ring, and the source that it stands for.
use Rattle.std.specs.Prelude.{◌≡◌, ℕ, ◌+◌, ◌^◌, ◌≤◌, ◌==◌, nat_lt, if◌then◌else◌, List, [], ◌∷◌, ◌++◌, length, slice_get, Option, None, find}
use Rattle.rams_model.specs.declared.Held.{Held}
use Rattle.rams_model.specs.Packets.{lo, hi, last_of, Follows, consecutive_end}

-- what a ring holds
pub record Seen : Type 0 where
  -- how many packets it has room for
  pub capacity : ℕ
  -- the packets, the oldest first
  pub held : List Held

-- nothing is held
abbrev pub empty_ring : ℕ → Seen
empty_ring capacity = record { capacity = capacity; held = [] }

-- The packets with one more: behind the others where its number is the next, and then the last of them, as many as there is room for; alone where its number is greater.
abbrev pub with_next : ℕ → List Held → Held → List Held
with_next capacity held h = if h.n == hi held then last_of capacity (held ++ h ∷ []) else h ∷ []

-- the ring after a packet was put in
abbrev pub pushed : Seen → Held → Seen
pushed v h = record v { held = with_next v.capacity v.held h }

-- The packet that the ring lets go for one more: the oldest, where the numbers go on and there is no room. At a gap all go, and none is told.
abbrev pub let_go : Seen → Held → Option Held
let_go v h = if h.n == hi v.held then (if nat_lt (length v.held) v.capacity then None else slice_get v.held 0) else None

-- the packet of a number
abbrev pub packet_of : ℕ → List Held → Option Held
packet_of n held = find (λ h. h.n == n) held

-- what is true of every ring
pub record IsRing (v : Seen) : Type 0 where
  pub room : 1 ≤ v.capacity
  pub fits : length v.held ≤ v.capacity
  -- each number is one above that before it
  pub follows : Follows (lo v.held) v.held
  pub ends : hi v.held ≡ lo v.held + length v.held
  pub small : hi v.held ≤ 2 ^ 62

-- The ring stands for a source: it holds the last packets of the longest end of it whose numbers follow one another, as many as there is room for.
abbrev pub StandsFor : Seen → List Held → Type 0
StandsFor v source = v.held ≡ last_of v.capacity (consecutive_end source)
