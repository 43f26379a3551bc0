-- How far the events of a seed have come.
use Rattle.std.specs.Prelude.{◌≡◌, ◌≢◌, ℕ, ◌+◌, ◌-◌, ◌*◌, ◌%◌, ◌^◌, ◌<◌, ◌≤◌, length, min, ◌&&◌, ◌||◌, ◌==◌, if◌then◌else◌, List, ◌∷◌, drop, Option, Some, None}
use Rattle.std.specs.List.{flat_map, range_with_len}
use Rattle.rams_model.specs.declared.Event.{Event}
use Rattle.rams_model.specs.declared.Event.TheVariants.{Live, Feedback, Tick}
use Rattle.generated.specs.declared.{trace_gen.page.Kind.Kind, trace_gen.page.Next.Next, trace_gen.page.Packet.Packet}
use Rattle.generated.specs.declared.trace_gen.page.Kind.TheVariants as kind
use Rattle.rams_model.specs.Formats.{spelling}
use Rattle.generated.specs.declared.trace_gen.page.Next.TheVariants as next
use Rattle.generated.specs.trace_gen.Draws.{state}
use Rattle.generated.specs.trace_gen.Generated.{draws_before, client, block, numbered, texts_from}

-- the whole blocks of a seed that have come, and the events of the next
pub record Place : Type 0 where
  pub seed : ℕ
  pub block : ℕ
  pub events : ℕ

abbrev pub place : ℕ → ℕ → ℕ → Place
place seed b events = record { seed = seed; block = b; events = events }

-- The events of so many blocks that are still to come.
abbrev pub left : Place → ℕ → List Event
left p blocks = drop p.events (flat_map (block p.seed) (range_with_len p.block (blocks - p.block)))

-- the draws up to a place: one for each packet, and one for a request and for a NACK
abbrev pub draws_at : Place → ℕ
draws_at p =
    draws_before p.block + min 10 p.events + (if p.events == 11 && (p.block % 4 == 1 || p.block % 4 == 2) then 1 else 0)

-- The state and the client are those of this place, which is no block's end.
pub record IsPlace (p : Place) (drawn_to named : ℕ) : Type 0 where
  pub within : p.events ≤ 11
  pub feedback : p.events ≡ 11 → p.block % 4 ≢ 0
  pub state : drawn_to ≡ state p.seed (draws_at p)
  pub drawn : p.block % 4 ≡ 1 → p.events ≡ 11 → named ≡ client p.seed p.block
  pub kept : 2 ≤ p.block % 4 → named ≡ client p.seed p.block
  pub small : named ≤ 64

-- what is left with the event that comes next, where one does
abbrev pub with_first : Option Event → List Event → List Event
with_first None events = events
with_first (Some event) events = event ∷ events

-- The event of a kind with these bytes.
abbrev pub event_on : Kind → List ℕ → Event
event_on kind.Live bytes = Live bytes
event_on (kind.Feedback client) bytes = Feedback client bytes
event_on kind.Tick bytes = Tick

-- Where bytes are ready, they are those of the packets of block b from packet e on.
abbrev pub AreReady : ℕ → ℕ → ℕ → List ℕ → Type 0
AreReady seed b e ready = 0 < length ready → ready ≡ texts_from seed b e (10 - e)

-- of the packets that are still to come of the block
abbrev pub IsReady : Place → List ℕ → Type 0
IsReady p ready = AreReady p.seed p.block p.events ready

-- What is told of the packet is what is written in it: its number is i, and its payload so many zeros.
pub record IsRead (p : Packet) : Type 0 where
  pub i : ℕ
  pub size : ℕ
  pub short : size ≤ 1399
  pub bytes : p.bytes ≡ spelling (numbered i size)
  pub sequence : p.sequence ≡ i % 65536
  pub timestamp : p.timestamp ≡ 450 * i % 2 ^ 32
  pub marker : p.marker ≡ (i % 50 == 0)

abbrev pub IsReadNext : Next → Type 0
IsReadNext (next.Packet p) = IsRead p
IsReadNext (next.OnPage kind) = Unit {0}

-- the event, where this stands on the page
abbrev pub next_on : Next → List ℕ → Event
next_on (next.Packet p) page = Live p.bytes
next_on (next.OnPage kind) page = event_on kind page
