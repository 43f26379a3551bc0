-- A generated trace on its way through a core.
use Rattle.std.specs.Prelude.{◌≡◌, ℕ, ◌≤◌, List, ◌++◌, reverse, length}
use Rattle.rams_model.specs.declared.{Event.Event, wire.TheConstants.MOST_ON_WIRE}
use Rattle.rams_model.specs.declared.Event.TheVariants.{Live, Feedback, Tick}
use Rattle.server_hub.specs.session_core.{StandsFor}
use Rattle.server_hub.specs.session_core.Seen.{Seen}
use Rattle.generated.specs.summary.{Tallied, tally_of, answers_in}
use Rattle.generated.specs.trace_gen.{Place, config, left, made}

-- its bytes are at most 1,500
abbrev pub IsBrief : Event → Type 0
IsBrief (Live bytes) = length bytes ≤ MOST_ON_WIRE
IsBrief (Feedback client bytes) = length bytes ≤ MOST_ON_WIRE
IsBrief Tick = Unit {0}

-- So many events of the seed have come, and the others are left: the core stands for them, and the answers of their one lawful book are counted.
pub record IsRunning (seed blocks events : ℕ) (at : Place) (core : Seen) (tally : Tallied) : Type 0 where
  -- the events that have come, the newest first
  pub came : List Event
  pub all : reverse came ++ left at blocks ≡ made seed blocks
  pub counted : events ≡ length came
  pub settings : core.settings ≡ config
  pub stands : StandsFor core came
  pub told : tally ≡ tally_of (answers_in config came)
