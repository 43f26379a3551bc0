-- What the lines of a trace for a pool leave, one after another.
use Rattle.std.specs.Prelude.{◌≡◌, ℕ, ◌<◌, ◌≤◌, true, List, [], ◌∷◌, ◌++◌, map, reverse, length, Option, None, Some, Ok}
use Rattle.std.specs.List.{AllByRecursion as Each}
use Rattle.rams_model.specs.Texts.{TraceLine, end_line, judged, may_come}
use Rattle.server_hub.specs.declared.HubEvent.{HubEvent}
use Rattle.server_hub.specs.Served.{Served}
use Rattle.trace_loop.specs.trace_book.trace_serving.{Stage, Turn, goes_on, ends, done, refused, too_long}
use Rattle.trace_loop.specs.trace_book.{IsStage}
use Rattle.pool.specs.declared.{pool_loop.dealing.Dealt.Dealt, pool_loop.routes.Route.Route}
use Rattle.trace_loop.specs.declared.whole_trace.Does.{Does}
use Rattle.trace_loop.specs.declared.whole_trace.Does.TheVariants.{GoesOn, Ends, Refused, TooLong}
use Rattle.pool.specs.pool_loop.Routing.{route_of, all_served}

-- what came, the newest first, with the event that a line may bring
abbrev pub came_with : Option HubEvent → List HubEvent → List HubEvent
came_with None came = came
came_with (Some e) came = e ∷ came

-- no channel has more events than this
abbrev pub HaveAtMost : ℕ → List Served → Type 0
HaveAtMost most channels = Each (λ (c : Served). length c.events ≤ most) channels

-- What the lines up to a stage have left, where these events came, the newest first: the channels with what came to each, and where each event went.
pub record HasDealt (d : Dealt) (came : List HubEvent) (stage : Stage (List Served)) : Type 0 where
  pub kept : IsStage stage
  pub channels : stage.state ≡ all_served d.channels.items
  pub routes : d.routes.items ≡ map route_of (reverse came)
  pub counted : stage.events ≡ length came
  pub few : stage.events ≤ 200000
  pub short : HaveAtMost stage.events stage.state

-- the same of what the lines so far have reached
abbrev pub HasDealtBy : Dealt → List HubEvent → Stage (List Served) → Type 0
HasDealtBy d came stage = (d.state ≡ stage.reached) × HasDealt d came stage

-- some lines have left it
abbrev pub HasDealtSome : Dealt → Type 0
HasDealtSome d = (came : List HubEvent) × (stage : Stage (List Served)) × HasDealtBy d came stage

-- this line was judged behind those of the stage, and may come
pub record Comes (d : Dealt) (came : List HubEvent) (bytes : List ℕ) (line : TraceLine) (stage : Stage (List Served)) : Type 0 where
  pub before : HasDealt d came stage
  pub comes : judged stage.reached bytes ≡ Ok (line, d.state)

-- An event came that changes the channels so, and it is written down where it went.
pub record HasTaken (after : List Served → List Served) (route : Route) (old new : Dealt) : Type 0 where
  pub channels : all_served new.channels.items ≡ after (all_served old.channels.items)
  pub routes : new.routes.items ≡ old.routes.items ++ route ∷ []
  pub state : new.state ≡ old.state

-- it is taken, unless it is one too many
abbrev pub IsDealt : (List Served → List Served) → Route → Dealt → Dealt → Does → Type 0
IsDealt after route old new GoesOn = (length old.routes.items < 200000) × HasTaken after route old new
IsDealt after route old new TooLong = 200000 ≤ length old.routes.items
IsDealt after route old new _ = ⊥

-- The turn of a line at some stage, which may bring an event: it goes on to a stage of what is left then, or is `end`, which may come, or is refused, or its event is one too many.
abbrev pub Took : Dealt → List HubEvent → Option HubEvent → Stage (List Served) → Turn (List Served) → ℕ → Does → Type 0
Took d came event stage was number GoesOn = (later : Stage (List Served)) × (was ≡ goes_on later []) × HasDealtBy d (came_with event came) later
Took d came event stage was number Ends = (was ≡ ends (done stage.events)) × HasDealt d came stage × (may_come stage.reached end_line ≡ true)
Took d came event stage was number (Refused fault) = was ≡ ends (refused number fault)
Took d came event stage was number TooLong = was ≡ ends too_long

-- what stands behind a line that ends nothing, and behind `end`
abbrev pub StandsAfter : Does → Dealt → Type 0
StandsAfter GoesOn d = HasDealtSome d
StandsAfter Ends d = (came : List HubEvent) × (stage : Stage (List Served)) × HasDealt d came stage × (may_come stage.reached end_line ≡ true)
StandsAfter _ d = Unit {0}
