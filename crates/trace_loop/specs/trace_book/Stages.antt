-- What is so at each stage of a trace that `run` serves.
use Rattle.std.specs.Prelude.{◌≡◌, ℕ, List, [], map}
use Rattle.rams_model.specs.Service.{Settings}
use Rattle.server_hub.specs.{served}
use Rattle.server_hub.specs.Served.{Served}
use Rattle.trace_loop.specs.trace_book.trace_serving.{Stage, goes_on, turn, opening, IsStage as IsServedStage}
use Rattle.trace_loop.specs.trace_book.TraceText.{run}

abbrev pub settings_of : List Served → List Settings
settings_of channels = map (λ c. c.settings) channels

-- these channels before anything came to them
abbrev pub new_channels : List Served → List Served
new_channels channels = map (λ c. served c.settings []) channels

-- the channels are those of the lines, whatever came to them
abbrev pub IsStage : Stage (List Served) → Type 0
IsStage stage = IsServedStage run stage (settings_of stage.state)

abbrev pub TheOpeningIsAStage : Type 0
TheOpeningIsAStage = IsStage (opening run)

-- What a line goes on with is a stage again.
abbrev pub StagesAreKept : Type 0
StagesAreKept = (stage later : Stage (List Served)) (number : ℕ) (bytes text : List ℕ) → IsStage stage → turn run stage number bytes ≡ goes_on later text → IsStage later
