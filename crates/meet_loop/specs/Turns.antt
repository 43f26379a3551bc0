-- What a line of a world's trace does, as code has it.
use Rattle.std.specs.Prelude.{◌≡◌, ℕ, Bool, false, List, [], map, Option, Some, None, Ok}
use Rattle.rams_model.specs.Service.{Settings}
use Rattle.rams_model.specs.Texts.{TraceLine, Head, Reached, judged}
use Rattle.server_hub.specs.{refused as refused_add}
use Rattle.trace_loop.specs.trace_book.trace_serving.{Stage, claim_of}
use Rattle.trace_loop.specs.trace_book.trace_serving.Text as text
use Rattle.trace_loop.specs.declared.Turn.{Turn}
use Rattle.trace_loop.specs.{ending, written, Took as TookSo}
use Rattle.trace_loop.specs.trace_book.{settings_of}
use Rattle.meet_loop.specs.declared.{world_laws.world.WorldEvent.WorldEvent, world_laws.world.WorldNote.WorldNote}
use Rattle.meet_loop.specs.world_laws.{new_world, happens}
use Rattle.meet_loop.specs.world_laws.World.{World}
use Rattle.meet_loop.specs.world_net.{CameAtMost, StandsFor, Seen, with_channel}
use Rattle.meet_loop.specs.world_text.{notes_lines}
use Rattle.meet_loop.specs.world_book.{meet}

-- What is kept stands for the world, to which no more came than its events. Until one came, the hub has the tick and the link of this head line.
pub record Serves (v : Seen) (head : Head) (begun : Bool) (w : World) (events : ℕ) : Type 0 where
  pub stands : StandsFor v w
  pub few : CameAtMost events v.kept
  pub tick : begun ≡ false → v.kept.hub.tick ≡ head.tick
  pub link : begun ≡ false → v.kept.hub.link ≡ head.link

-- there is a world exactly where a head line came
abbrev pub WorldServes : Option Seen → Option Head → Bool → World → ℕ → Type 0
WorldServes None None begun w events = (w ≡ new_world []) × (events ≡ 0)
WorldServes (Some v) (Some head) begun w events = Serves v head begun w events
WorldServes _ _ begun w events = ⊥

-- What stands before a line: a world, so many events, and these lines.
pub record Stands (world : Option Seen) (events : ℕ) (reached : Reached) (stage : Stage World) : Type 0 where
  pub served : WorldServes world stage.reached.head stage.reached.begun stage.state stage.events
  pub claims : stage.reached.channels ≡ map claim_of (settings_of stage.state.channels)
  pub counted : events ≡ stage.events
  pub lines : reached ≡ stage.reached

-- this line was judged well behind those of the stage
pub record Comes (world : Option Seen) (events : ℕ) (reached : Reached) (line : TraceLine) (stage : Stage World) : Type 0 where
  pub before : Stands world events stage.reached stage
  pub bytes : List ℕ
  pub comes : judged stage.reached bytes ≡ Ok (line, reached)

-- a new world without channels, whose hub has this tick and this link
pub record IsUnder (tick link : ℕ) (v : Seen) : Type 0 where
  pub stands : StandsFor v (new_world [])
  pub few : CameAtMost 0 v.kept
  pub tick_is : v.kept.hub.tick ≡ tick
  pub link_is : v.kept.hub.link ≡ link

-- a channel with these settings can be opened: they are of the hub's tick, and it fits the link beside the others
pub record CanOpen (v : Seen) (s : Settings) : Type 0 where
  pub tick : s.tick ≡ v.kept.hub.tick
  pub fits : refused_add v.kept.hub s ≡ None

-- the channel was opened, beside the others
pub record Opens (s : Settings) (old new : Seen) : Type 0 where
  pub stands : (w : World) → StandsFor old w → StandsFor new (with_channel s w)
  pub few : (n : ℕ) → CameAtMost n old.kept → CameAtMost n new.kept
  pub tick : new.kept.hub.tick ≡ old.kept.hub.tick
  pub link : new.kept.hub.link ≡ old.kept.hub.link

-- the same of a world that is there
abbrev pub OpensIn : Settings → Option Seen → Option Seen → Type 0
OpensIn s (Some old) (Some new) = Opens s old new
OpensIn s _ _ = ⊥

-- This is said of an event, what is kept stands for the world after it, and this is whether it brings no datagram too many.
abbrev pub Happens : WorldEvent → World → Seen → List WorldNote → Bool → Type 0
Happens e w v notes fits = (notes ≡ (happens e w).notes) × StandsFor v (happens e w).world × (meet.fits (happens e w).world ≡ fits)

-- the line's turn was taken, and these are the notes of the last event
abbrev pub Took : text.Turn World → Option Seen → ℕ → Reached → List WorldNote → ℕ → Turn (Unit {0}) → Type 0
Took was world events reached notes number t = TookSo was (Stands world events reached) (ending t) (written (λ said. notes_lines events notes) number t)
