-- The head of a journal: lines that a server takes before its first turn.
use Rattle.std.specs.Prelude.{◌≡◌, ℕ, true, List, [], ◌++◌, codes}
use Rattle.rams_model.specs.declared.{Mode.Mode, Mode.TheVariants.Serve}
use Rattle.rams_model.specs.Texts.{end_line, nothing_reached, may_come}
use Rattle.line_io.specs.{HasNoFeed}
use Rattle.server_hub.specs.Served.{Served}
use Rattle.trace_loop.specs.trace_book.trace_serving.{Stage, goes_on, turn}
use Rattle.trace_loop.specs.trace_book.{run}

-- nothing was read yet, for this use of a trace
abbrev pub starting : Mode → Stage (List Served)
starting mode = record { reached = nothing_reached mode; state = []; events = 0 }

-- The bytes are whole lines that a server takes, one after another, up to this stage.
pub data Leads : List ℕ → Stage (List Served) → Type 0 where
  nothing : Leads [] (starting Serve)
  line : (head : List ℕ) (stage later : Stage (List Served)) (number : ℕ) (bytes text : List ℕ) → Leads head stage → HasNoFeed bytes → turn run stage number bytes ≡ goes_on later text → Leads (head ++ (bytes ++ codes "\n")) later

-- The head opens these channels: behind it `end` may come.
pub record Opens (head : List ℕ) (channels : List Served) : Type 0 where
  pub stage : Stage (List Served)
  pub leads : Leads head stage
  pub ends : may_come stage.reached end_line ≡ true
  pub opened : stage.state ≡ channels
