-- The packets of a channel that came in time: those that wait for others, and those that are held.
use Rattle.std.specs.Prelude.{◌≡◌, ℕ, ◌+◌, ◌*◌, ◌^◌, ◌<◌, ◌≤◌, false, List, [], ◌∷◌, ◌++◌, length, map, None}
use Rattle.rams_model.specs.declared.{Held.Held, wire.TheConstants.MOST_ON_WIRE}
use Rattle.rams_model.specs.Packets.{hi}
use Rattle.channel_cache.specs.packet_ring.Seen as rings
use Rattle.channel_cache.specs.declared.{reorder_window.window.Came.Came, intake.Intake.Intake}
use Rattle.channel_cache.specs.reorder_window.{Start, released, new_window, first_free, RisesIn}
use Rattle.channel_cache.specs.declared.reorder_window.window.Came.TheVariants.{Kept, Late, Twice}
use Rattle.channel_cache.specs.reorder_window.Seen as windows
use Rattle.channel_cache.specs.Whole.{IsWhole}
use Rattle.channel_cache.specs.Stocked.{empty_stock}

-- no packet came
abbrev pub new_intake : ℕ → ℕ → Intake
new_intake width ring = record { window = new_window width; stock = empty_stock ring }

-- the packets of items
abbrev pub packets_of : List (ℕ × Held) → List Held
packets_of items = map (λ e. e.1) items

-- an item is a packet under its own number
pub record IsItem (e : ℕ × Held) : Type 0 where
  pub number : e.0 ≡ e.1.n
  pub whole : IsWhole e.1

abbrev pub AreItems : List (ℕ × Held) → Type 0
AreItems [] = Unit {0}
AreItems (e ∷ es) = IsItem e × AreItems es

-- What waits comes behind what is held.
pub record IsIntake (v : Intake) : Type 0 where
  pub behind : RisesIn (hi v.stock.ring.held) (v.window.greatest + 1) v.window.kept
  pub due : v.window.ended ≡ false → hi v.stock.ring.held ≤ v.window.awaited
  pub next : v.window.awaited ≤ v.window.greatest + 1
  pub small : v.window.greatest < 2 ^ 62
  pub items : AreItems v.window.kept

-- the wire sizes of all packets that were held, and 1,500 bytes for each that waits
abbrev pub total_of : Intake → ℕ
total_of v = v.stock.total + MOST_ON_WIRE * length v.window.kept

-- Between two packets of a start: it goes on, and none of those that wait could go out.
pub record IsSettled (v : Intake) : Type 0 where
  pub lawful : IsIntake v
  pub going : v.window.ended ≡ false
  pub settled : first_free v.window ≡ None

-- As packets come the sizes stay, what is held ends no earlier, and the bytes of so many packets were added at most.
pub record Grows (old new : Intake) (more : ℕ) : Type 0 where
  pub width : new.window.width ≡ old.window.width
  pub capacity : new.stock.ring.capacity ≡ old.stock.ring.capacity
  pub end : hi old.stock.ring.held ≤ hi new.stock.ring.held
  pub total : total_of new ≤ total_of old + MOST_ON_WIRE * more

-- for a packet that was dropped
abbrev pub UnlessKept : Came → Type 0 → Type 0
UnlessKept Kept p = Unit {0}
UnlessKept Late p = p
UnlessKept Twice p = p

-- The window stands for a start of which all went out that may; the ring stands for a source that these packets end.
pub record Holds (v : Intake) (before : List Held) (s : Start Held) : Type 0 where
  pub waits : windows.StandsFor v.window s (released v.window.width v.window.ended s)
  pub holds : rings.StandsFor v.stock.ring (before ++ packets_of (released v.window.width v.window.ended s))
