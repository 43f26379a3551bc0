-- The numbering and the packets in time, step by step.
use Rattle.std.specs.Prelude.{◌≡◌, ℕ, false, List, [], Option, Some, None}
use Rattle.rams_model.specs.declared.Held.{Held}
use Rattle.rams_model.specs.Packets.{Arrival, stream_of}
use Rattle.reckoning.specs.ext_seq.Numbers as numbers
use Rattle.channel_cache.specs.reorder_window.{first_free}
use Rattle.channel_cache.specs.reorder_window.Seen as windows
use Rattle.channel_cache.specs.declared.intake.Intake.{Intake}
use Rattle.channel_cache.specs.Waiting.{IsIntake}
use Rattle.channel_cache.specs.Brought.{Brings}

-- the window's greatest number is the numbering's
abbrev pub IsTop : Option ℕ → windows.Seen Held → Type 0
IsTop None v = (v.kept ≡ []) × (v.greatest ≡ 0)
IsTop (Some g) v = (v.ended ≡ false) × (v.greatest ≡ g)

-- What is true of a numbering and the packets in time between two packets.
pub record AreInStep (v : numbers.Seen) (intake : Intake) : Type 0 where
  pub lawful : IsIntake intake
  pub settled : first_free intake.window ≡ None
  pub top : IsTop v.greatest intake.window

-- They stand for these live packets, the newest first.
pub record Stand (v : numbers.Seen) (intake : Intake) (arrivals : List Arrival) : Type 0 where
  pub numbered : numbers.StandsFor v intake.window.width arrivals
  pub brought : Brings intake (stream_of intake.window.width arrivals)

-- a numbering that kept all but the kept value
abbrev pub kept_other : numbers.Seen → numbers.Seen → numbers.Seen
kept_other v w = record v { kept = w.kept }
