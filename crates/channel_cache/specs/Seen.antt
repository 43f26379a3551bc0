-- What contracts see of a cache, and the live packets that it stands for.
use Rattle.std.specs.Prelude.{◌≡◌, ℕ, ◌*◌, ◌<◌, ◌≤◌, List, [], length}
use Rattle.rams_model.specs.declared.{Held.Held, wire.TheConstants.MOST_ON_WIRE}
use Rattle.rams_model.specs.Service.{Settings}
use Rattle.rams_model.specs.Packets.{Arrival, stream_of, hold}
use Rattle.channel_cache.specs.packet_ring.Seen as rings
use Rattle.reckoning.specs.ext_seq.{new_numbering}
use Rattle.reckoning.specs.ext_seq.Numbers as numbers
use Rattle.channel_cache.specs.reorder_window.{new_window}
use Rattle.channel_cache.specs.reorder_window.Seen as windows
use Rattle.channel_cache.specs.declared.intake.Intake.{Intake}
use Rattle.channel_cache.specs.Brought.{Waits}
use Rattle.channel_cache.specs.Step.{AreInStep, kept_other}

-- what a cache keeps
pub record Seen : Type 0 where
  pub settings : Settings
  pub numbering : numbers.Seen
  -- the packets that wait for others
  pub window : windows.Seen Held
  -- the packets that are held, the oldest first
  pub held : List Held
  -- the wire sizes of all packets that were held, and 1,500 bytes for each that waits
  pub total : ℕ

-- no packet came
abbrev pub new_cache : Settings → Seen
new_cache s = record { settings = s; numbering = new_numbering; window = new_window s.channel.window; held = []; total = 0 }

-- the packets that are held, as a ring: at most so many, with consecutive numbers
abbrev pub ring_of : Seen → rings.Seen
ring_of v = record { capacity = v.settings.channel.ring; held = v.held }

-- The cache stands for these live packets, which passed the tests, the newest first.
pub record StandsFor (v : Seen) (arrivals : List Arrival) : Type 0 where
  pub numbering : numbers.StandsFor v.numbering v.settings.channel.window arrivals
  pub waits : Waits v.window v.settings.channel.window (stream_of v.settings.channel.window arrivals).present
  pub held : v.held ≡ hold v.settings.channel.window v.settings.channel.ring (stream_of v.settings.channel.window arrivals)
  pub total : v.total ≤ MOST_ON_WIRE * length arrivals

-- It stands for some live packets, fewer than so many.
pub record StandsForFewer (v : Seen) (most : ℕ) : Type 0 where
  pub arrivals : List Arrival
  pub stands : StandsFor v arrivals
  pub few : length arrivals < most

-- nothing but the kept value differs
abbrev pub DiffersInKept : Seen → Seen → Type 0
DiffersInKept old new = new ≡ record old { numbering = kept_other old.numbering new.numbering }

-- what is true of every cache
pub record IsCache (settings : Settings) (numbering : numbers.Seen) (intake : Intake) : Type 0 where
  pub in_step : AreInStep numbering intake
  pub width : intake.window.width ≡ settings.channel.window
  pub ring : intake.stock.ring.capacity ≡ settings.channel.ring
