-- What an event makes of the cores.
use Rattle.std.specs.Prelude.{◌≡◌, ℕ, List, [], ◌∷◌, Some, slice_get, slice_set}
use Rattle.rams_model.specs.declared.{Event.Event, Event.TheVariants.Tick}
use Rattle.rams_model.specs.Service.{Answered}
use Rattle.server_hub.specs.session_core.Seen as cores
use Rattle.server_hub.specs.declared.event.At.{At}
use Rattle.server_hub.specs.Served.{Served, with_event, answer_to}
use Rattle.server_hub.specs.Seen.{Serves}

-- An event makes this core of that one, and is answered so, whatever came to its channel before.
pub record Steps (e : Event) (old new : cores.Seen) (a : Answered) : Type 0 where
  pub stands : (c : Served) → Serves old c → (a ≡ answer_to e c) × Serves new (with_event e c)
  pub settings : new.settings ≡ old.settings

-- It does so with the core at this place, and changes no other.
pub record StepsAt (e : Event) (place : ℕ) (old new : List cores.Seen) (a : Answered) : Type 0 where
  pub core : cores.Seen
  pub later : cores.Seen
  pub is_there : slice_get old place ≡ Some core
  pub changed : new ≡ slice_set old place later
  pub steps : Steps e core later a

-- A tick does so with a core, and its channel answers under its number.
pub record Ticks (old new : cores.Seen) (at : At) : Type 0 where
  pub steps : Steps Tick old new at.answer
  pub id : at.id ≡ old.settings.channel.id

-- It does so with each of these cores.
abbrev pub AllTick : List cores.Seen → List cores.Seen → List At → Type 0
AllTick [] [] [] = Unit {0}
AllTick (v ∷ vs) (w ∷ ws) (at ∷ all) = Ticks v w at × AllTick vs ws all
AllTick _ _ _ = ⊥
