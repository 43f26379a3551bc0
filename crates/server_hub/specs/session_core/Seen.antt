-- What contracts see of a core, and the events that it stands for.
use Rattle.std.specs.Prelude.{◌≡◌, ℕ, ◌<◌, List, length}
use Rattle.rams_model.specs.declared.Event.{Event}
use Rattle.rams_model.specs.Service.{Settings}
use Rattle.channel_parts.specs.declared.Parts.{Parts}
use Rattle.channel_parts.specs.Standing as parts
use Rattle.tick_core.specs.declared.TickPlan.{TickPlan}
use Rattle.tick_core.specs.{IsPlanFor}

-- what a core keeps
pub record Seen : Type 0 where
  pub settings : Settings
  pub parts : Parts

-- what is true of every core: some events stand behind its parts
pub record IsCore (p : Parts) : Type 0 where
  pub events : List Event
  pub stands : parts.StandsFor p events

-- The core stands for these events, the newest first: its parts are what their history says.
pub record StandsFor (v : Seen) (events : List Event) : Type 0 where
  pub settings_are : v.settings ≡ v.parts.config
  pub parts_stand : parts.StandsFor v.parts events

-- it stands for some events, fewer than so many
abbrev pub StandsForFewer : Seen → ℕ → Type 0
StandsForFewer v n = (events : List Event) × StandsFor v events × (length events < n)

-- what is planned for a tick
abbrev pub Planned : Type 0
Planned = TickPlan

-- The plan is that of the tick which comes next, whatever events the core stands for.
pub record IsPlanOf (v : Seen) (plan : Planned) : Type 0 where
  pub for_all : (events : List Event) → StandsFor v events → IsPlanFor v.parts events plan
