-- How the lines of a trace for threads are read.
use Rattle.std.specs.Prelude.{◌≡◌, ℕ, List, [], ◌∷◌, ◌++◌, is_some, true}
use Rattle.rams_model.specs.Texts.{end_line, lines_of, may_come}
use Rattle.line_io.specs.{HasNoFeed}
use Rattle.server_hub.specs.Served.{Served}
use Rattle.trace_loop.specs.{HasReadSo}
use Rattle.trace_loop.specs.trace_book.trace_serving.{Stage, goes_on, done, refused, too_long, turn, text_from, stage_from, taken_from, last_stage, served_text}
use Rattle.trace_loop.specs.trace_book.{new_channels}
use Rattle.trace_loop.specs.journal_book.{Opens}
use Rattle.threads_loop.specs.declared.dealing.Dealt.{Dealt}
use Rattle.trace_loop.specs.declared.{whole_trace.Does.Does, whole_trace.ReadTrace.ReadTrace}
use Rattle.trace_loop.specs.declared.whole_trace.Does.TheVariants.{GoesOn, Ends, Refused, TooLong}
use Rattle.trace_loop.specs.declared.whole_trace.ReadTrace.TheVariants as read
use Rattle.threads_loop.specs.Dealing.{threads, head_part, head_lines}
use Rattle.threads_loop.specs.Lines.{HasDealt, HasDealtBy}

-- The first line of xs is cut off, and goes on; ys is left.
pub record GoesOnAfter (old new : Dealt) (stage : Stage (List Served)) (number : ℕ) (xs ys : List ℕ) : Type 0 where
  pub line : List ℕ
  pub clean : HasNoFeed line
  pub lines : lines_of xs ≡ line ∷ lines_of ys
  pub later : Stage (List Served)
  pub does : turn threads stage number line ≡ goes_on later []
  pub dealt : HasDealtBy new later
  pub head_is : new.head.items ≡ old.head.items ++ head_part line

-- Its first line is `end`.
pub record EndsAt (old new : Dealt) (stage : Stage (List Served)) (number : ℕ) (xs : List ℕ) : Type 0 where
  pub end : text_from threads stage number (lines_of xs) ≡ done stage.events
  pub reaches : stage_from threads stage number (lines_of xs) ≡ stage
  pub takes : taken_from threads stage number (lines_of xs) ≡ []
  pub dealt : HasDealt new stage
  pub may : may_come stage.reached end_line ≡ true
  pub head_is : new.head.items ≡ old.head.items

-- What the first line of xs does, where ys comes after it.
abbrev pub IsFirstLine : Dealt → Dealt → Stage (List Served) → ℕ → List ℕ → Does → List ℕ → Type 0
IsFirstLine old new stage number xs GoesOn ys = GoesOnAfter old new stage number xs ys
IsFirstLine old new stage number xs Ends ys = EndsAt old new stage number xs
IsFirstLine old new stage number xs (Refused fault) ys = text_from threads stage number (lines_of xs) ≡ refused number fault
IsFirstLine old new stage number xs TooLong ys = text_from threads stage number (lines_of xs) ≡ too_long

-- The trace xs was read to its end: what it left.
pub record IsReadOf (workers : ℕ) (xs : List ℕ) (d : Dealt) : Type 0 where
  pub end : served_text threads xs ≡ done (last_stage threads xs).events
  pub dealt : HasDealt d (last_stage threads xs)
  pub workers_are : d.workers ≡ workers
  pub head_is : d.head.items ≡ head_lines xs
  pub opens : Opens d.head.items (new_channels (last_stage threads xs).state)

-- what was read of a trace
abbrev pub HasRead : ℕ → List ℕ → ReadTrace Dealt → Type 0
HasRead workers xs read = HasReadSo threads (IsReadOf workers) xs read

-- what was read whole has a channel, and its events in lists
abbrev pub IsWhole : ℕ → ReadTrace Dealt → Type 0
IsWhole workers (read.Lawful d) = (stage : Stage (List Served)) × HasDealt d stage × (is_some d.config ≡ true)
IsWhole workers _ = Unit {0}
