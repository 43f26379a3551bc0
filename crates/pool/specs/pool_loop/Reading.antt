-- How the lines of a trace for a pool are read.
use Rattle.std.specs.Prelude.{◌≡◌, ℕ, ◌<◌, List, [], ◌∷◌, true, length}
use Rattle.rams_model.specs.declared.Status.TheVariants.{Done}
use Rattle.rams_model.specs.Texts.{end_line, lines_of, may_come}
use Rattle.server_hub.specs.declared.HubEvent.{HubEvent}
use Rattle.server_hub.specs.Served.{Served}
use Rattle.trace_loop.specs.{HasReadSo}
use Rattle.trace_loop.specs.trace_book.trace_serving.{Stage, goes_on, ends, done, refused, too_long, turn, text_from, last_stage, served_text}
use Rattle.trace_loop.specs.trace_book.{run, trace_text, came as came_in, event_at}
use Rattle.pool.specs.declared.pool_loop.dealing.Dealt.{Dealt}
use Rattle.trace_loop.specs.declared.{whole_trace.Does.Does, whole_trace.ReadTrace.ReadTrace}
use Rattle.trace_loop.specs.declared.whole_trace.Does.TheVariants.{GoesOn, Ends, Refused, TooLong}
use Rattle.trace_loop.specs.declared.whole_trace.ReadTrace.TheVariants as read
use Rattle.pool.specs.pool_loop.Routing.{pool}
use Rattle.pool.specs.pool_loop.Lines.{came_with, HasDealt, HasDealtBy}

-- The first line of xs is cut off, and goes on; ys is left.
pub record GoesOnAfter (new : Dealt) (came : List HubEvent) (stage : Stage (List Served)) (number : ℕ) (xs ys : List ℕ) : Type 0 where
  pub line : List ℕ
  pub lines : lines_of xs ≡ line ∷ lines_of ys
  pub later : Stage (List Served)
  pub does : turn pool stage number line ≡ goes_on later []
  pub dealt : HasDealtBy new (came_with (event_at line) came) later

-- Its first line is `end`.
pub record EndsAt (new : Dealt) (came : List HubEvent) (stage : Stage (List Served)) (number : ℕ) (xs : List ℕ) : Type 0 where
  pub line : List ℕ
  pub later : List (List ℕ)
  pub lines : lines_of xs ≡ line ∷ later
  pub does : turn pool stage number line ≡ ends (done stage.events)
  pub dealt : HasDealt new came stage
  pub may : may_come stage.reached end_line ≡ true

-- What the first line of xs does, where ys comes after it.
abbrev pub IsFirstLine : Dealt → List HubEvent → Stage (List Served) → ℕ → List ℕ → Does → List ℕ → Type 0
IsFirstLine new came stage number xs GoesOn ys = GoesOnAfter new came stage number xs ys
IsFirstLine new came stage number xs Ends ys = EndsAt new came stage number xs
IsFirstLine new came stage number xs (Refused fault) ys = text_from pool stage number (lines_of xs) ≡ refused number fault
IsFirstLine new came stage number xs TooLong ys = text_from pool stage number (lines_of xs) ≡ too_long

-- The trace xs was read to its end, as `run` reads it: what it left.
pub record IsReadOf (xs : List ℕ) (d : Dealt) : Type 0 where
  pub end : (served_text pool xs).status ≡ Done
  pub ends : (trace_text xs).status ≡ Done
  pub dealt : HasDealt d (came_in xs) (last_stage run xs)

-- what was read of a trace
abbrev pub HasRead : List ℕ → ReadTrace Dealt → Type 0
HasRead xs read = HasReadSo pool IsReadOf xs read

-- what was read whole has a channel
abbrev pub IsWhole : ReadTrace Dealt → Type 0
IsWhole (read.Lawful d) = (came : List HubEvent) × (stage : Stage (List Served)) × HasDealt d came stage × (0 < length d.channels.items)
IsWhole _ = Unit {0}
