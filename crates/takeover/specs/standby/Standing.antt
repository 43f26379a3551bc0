-- What the lines of a journal lead to, as code has it.
use Rattle.std.specs.Prelude.{◌≡◌, ℕ, ◌+◌, ◌≤◌, Bool, true, false, if◌then◌else◌, List, [], map, length, Option, None, Some, is_some, Result, Ok, Err}
use Rattle.rams_model.specs.declared.Mode.TheVariants.{Run}
use Rattle.rams_model.specs.Texts.{TraceLine, Head, Reached, accepted, with_reached}
use Rattle.server_hub.specs.{StandsFor}
use Rattle.server_hub.specs.Seen as hubs
use Rattle.server_hub.specs.Served.{Served}
use Rattle.trace_loop.specs.trace_book.trace_serving.{Stage, Turn, goes_on, ends, done, refused, too_long, after_judging}
use Rattle.trace_loop.specs.trace_book.{run}
use Rattle.trace_loop.specs.head_loop.{claim_of, numbers}
use Rattle.takeover.specs.declared.{standby.fault.FeedFault.FeedFault, standby.fault.Step.Step}
use Rattle.takeover.specs.declared.standby.fault.Step.TheVariants.{GoesOn, Ends}
use Rattle.takeover.specs.declared.standby.fault.FeedFault.TheVariants.{Line, TooLong, NoMemory}

-- The hub of this head line stands for the channels, and counts their events.
pub record Serves (v : hubs.Seen) (head : Head) (channels : List Served) (events : ℕ) : Type 0 where
  pub stands : StandsFor v channels
  pub tick : v.tick ≡ head.tick
  pub link : v.link ≡ head.link
  pub calls : v.calls ≡ events

-- there is a hub exactly where a head line came
abbrev pub HubServes : Option hubs.Seen → Option Head → List Served → ℕ → Type 0
HubServes None None channels events = (channels ≡ []) × (events ≡ 0)
HubServes (Some v) (Some head) channels events = Serves v head channels events
HubServes _ _ channels events = ⊥

-- What stands before a line: a hub for the channels, with these numbers, so many events, and these lines.
pub record Stands (hub : Option hubs.Seen) (ids : List ℕ) (events : ℕ) (reached : Reached) (stage : Stage (List Served)) : Type 0 where
  pub serves : HubServes hub stage.reached.head stage.state stage.events
  pub ids_are : ids ≡ numbers stage.state
  pub claims : stage.reached.channels ≡ map claim_of stage.state
  pub counted : events ≡ stage.events
  pub few : events ≤ 1000000
  pub lines : reached ≡ stage.reached
  pub mode : reached.mode ≡ Run

-- it stands for some stage
abbrev pub StandsSomewhere : Option hubs.Seen → List ℕ → ℕ → Reached → Type 0
StandsSomewhere hub ids events reached = (stage : Stage (List Served)) × Stands hub ids events reached stage

-- how many lines went on: the head line, those of the channels and those of the events
abbrev pub count_of : Option hubs.Seen → List ℕ → ℕ → ℕ
count_of hub ids events = (if is_some hub then 1 else 0) + length ids + events

-- the turn of a line, once it is read
abbrev pub turn_of : Stage (List Served) → ℕ → TraceLine → Turn (List Served)
turn_of stage number line = after_judging run stage number (with_reached line (accepted stage.reached line))

-- the line is `end`
abbrev pub is_end : Step → Bool
is_end GoesOn = false
is_end Ends = true

-- The line's turn was taken: what holds behind it, where it goes on, or how it ends the journal.
abbrev pub Took : Result Step FeedFault → Turn (List Served) → (Stage (List Served) → Type 0) → ℕ → Type 0
Took (Ok GoesOn) was at number = (later : Stage (List Served)) × (text : List ℕ) × (was ≡ goes_on later text) × at later
Took (Ok Ends) was at number = (events : ℕ) × (was ≡ ends (done events))
Took (Err (Line n fault)) was at number = (n ≡ number) × (was ≡ ends (refused number fault))
Took (Err TooLong) was at number = was ≡ ends too_long
Took (Err NoMemory) was at number = Unit {0}

-- P, where the line doesn't go on
abbrev pub Halting : Result Step FeedFault → Type 0 → Type 0
Halting (Ok GoesOn) P = Unit {0}
Halting (Ok Ends) P = P
Halting (Err fault) P = P

-- nothing changed
pub record IsSame (hub hubs_new : Option hubs.Seen) (ids ids_new : List ℕ) (events events_new : ℕ) (reached reached_new : Reached) : Type 0 where
  pub hub_is : hubs_new ≡ hub
  pub ids_are : ids_new ≡ ids
  pub events_are : events_new ≡ events
  pub lines_are : reached_new ≡ reached
