-- What the lines of a trace for threads leave, one after another.
use Rattle.std.specs.Prelude.{◌≡◌, ℕ, ◌+◌, ◌<◌, ◌≤◌, ◌==◌, if◌then◌else◌, true, List, [], ◌∷◌, ◌++◌, map, reverse, length, slice_index_or, Option, None, Some, Ok}
use Rattle.std.specs.List.{AllByRecursion as Each}
use Rattle.rams_model.specs.declared.{Event.Event, Mode.TheVariants.Threads}
use Rattle.rams_model.specs.Service.{Settings}
use Rattle.rams_model.specs.Texts.{TraceLine, end_line, judged, may_come}
use Rattle.server_hub.specs.declared.HubEvent.{HubEvent}
use Rattle.server_hub.specs.{served}
use Rattle.server_hub.specs.Served.{Served}
use Rattle.trace_loop.specs.trace_book.trace_serving.{Stage, Turn, goes_on, ends, done, refused, too_long, claim_of}
use Rattle.trace_loop.specs.trace_book.{settings_of}
use Rattle.trace_loop.specs.journal_book.{HasLine}
use Rattle.threads_loop.specs.declared.dealing.Dealt.{Dealt}
use Rattle.trace_loop.specs.declared.whole_trace.Does.{Does}
use Rattle.trace_loop.specs.declared.whole_trace.Does.TheVariants.{GoesOn, Ends, Refused, TooLong}
use Rattle.threads_loop.specs.Dealing.{list_of, dealt, hub_event, part_of}

abbrev pub lists_in : Dealt → List (List Event)
lists_in d = map (λ l. l.items) d.lists.items

-- the channel, where its line came, after what came to it
abbrev pub holding : Option Settings → List Event → List Served
holding None came = []
holding (Some s) came = served s came ∷ []

-- each event has a line that a trace may have
abbrev pub HaveLines : Option Settings → List Event → Type 0
HaveLines None came = Unit {0}
HaveLines (Some s) came = Each (λ e. HasLine (hub_event s.channel.id e)) came

-- What the lines up to a stage have left: the channel, and what came to it, dealt into lists.
pub record HasDealt (d : Dealt) (stage : Stage (List Served)) : Type 0 where
  pub some : 0 < d.workers
  pub most : d.workers ≤ 16
  pub mode : stage.reached.mode ≡ Threads
  -- the newest first
  pub came : List Event
  pub state : stage.state ≡ holding d.config came
  pub idle : d.config ≡ None → came ≡ []
  pub claims : stage.reached.channels ≡ map claim_of (settings_of stage.state)
  pub count : length d.lists.items ≡ d.workers + 2
  pub lists : (list : ℕ) → slice_index_or (lists_in d) list [] ≡ dealt d.workers list (reverse came)
  pub events : d.events ≡ stage.events
  pub counted : stage.events ≡ length came
  pub few : stage.events ≤ 200000
  pub spelled : HaveLines d.config came

-- the same of what the lines so far have reached
abbrev pub HasDealtBy : Dealt → Stage (List Served) → Type 0
HasDealtBy d stage = (d.state ≡ stage.reached) × HasDealt d stage

-- some lines have left it
abbrev pub HasDealtSome : Dealt → Type 0
HasDealtSome d = (stage : Stage (List Served)) × HasDealtBy d stage

-- this line was judged behind those of the stage, and may come
pub record Comes (d : Dealt) (bytes : List ℕ) (line : TraceLine) (stage : Stage (List Served)) : Type 0 where
  pub before : HasDealt d stage
  pub comes : judged stage.reached bytes ≡ Ok (line, d.state)

-- an event stands at the end of its list, and is counted
pub record HasTaken (event : Event) (old new : Dealt) : Type 0 where
  pub config : new.config ≡ old.config
  pub state : new.state ≡ old.state
  pub events : new.events ≡ old.events + 1
  pub count : length new.lists.items ≡ length old.lists.items
  pub lists : (list : ℕ) → slice_index_or (lists_in new) list [] ≡ slice_index_or (lists_in old) list [] ++ (if list_of old.workers event == list then event ∷ [] else [])

-- an event is taken, unless it is one too many
abbrev pub IsDealt : Event → Dealt → Dealt → Does → Type 0
IsDealt event old new GoesOn = (old.events < 200000) × HasTaken event old new
IsDealt event old new TooLong = 200000 ≤ old.events
IsDealt event old new _ = ⊥

-- The turn of a line at some stage: it goes on to a stage of what is left then, or is `end`, which may come, or is refused, or its event is one too many.
abbrev pub Took : Dealt → Stage (List Served) → Turn (List Served) → ℕ → Does → Type 0
Took d stage was number GoesOn = (later : Stage (List Served)) × (was ≡ goes_on later []) × HasDealtBy d later
Took d stage was number Ends = (was ≡ ends (done stage.events)) × HasDealt d stage × (may_come stage.reached end_line ≡ true)
Took d stage was number (Refused fault) = was ≡ ends (refused number fault)
Took d stage was number TooLong = was ≡ ends too_long

-- The text of the head after a line: with the line where that brings no event and goes on.
abbrev pub Grows : Does → List ℕ → List ℕ → List ℕ → Option HubEvent → Type 0
Grows GoesOn old new bytes event = new ≡ old ++ part_of event bytes
Grows Ends old new bytes event = new ≡ old
Grows _ old new bytes event = Unit {0}

-- what stands behind a line that ends nothing, and behind `end`
abbrev pub StandsAfter : Does → Dealt → Type 0
StandsAfter GoesOn d = HasDealtSome d
StandsAfter Ends d = (stage : Stage (List Served)) × HasDealt d stage × (may_come stage.reached end_line ≡ true)
StandsAfter _ d = Unit {0}
