-- What is promised of a run where the source tells its bytes.
use Rattle.std.specs.Prelude.{◌≡◌, ℕ, ◌⊎◌, List, [], ◌∷◌, ◌++◌, Option, None, Some, MatchOption}
use Rattle.std.specs.Io.KnownBytes.{Appends}
use Rattle.line_io.specs.{IsCutOff}
use Rattle.line_io.specs.Passes.{Passes}
use Rattle.rams_model.specs.declared.Status.{Status}
use Rattle.rams_model.specs.Texts.{lines_of, whole_lines}
use Rattle.trace_loop.specs.trace_book.trace_serving.{Serving, Stage, Outcome, opening, goes_on, turn, text_from, lines_text}

-- P of the bytes, where they are told
abbrev pub IfTold : Option (List ℕ) → (List ℕ → Type 0) → Type 0
IfTold None P = Unit {0}
IfTold (Some bytes) P = P bytes

-- P of what was left and what is left; what is told stays told
abbrev pub IfBothTold : Option (List ℕ) → Option (List ℕ) → (List ℕ → List ℕ → Type 0) → Type 0
IfBothTold None now P = Unit {0}
IfBothTold (Some old) None P = ⊥
IfBothTold (Some old) (Some new) P = P old new

-- These lines of the bytes that were taken were read whole: those that line feeds end or, where nothing was left, a last one too.
abbrev pub AreReadWhole : List ℕ → List ℕ → List (List ℕ) → Type 0
AreReadWhole taken left lines = (lines ≡ whole_lines taken) ⊎ ((left ≡ []) × (lines ≡ lines_of taken))

-- the outcome has this status and no more than this text
abbrev pub EndsIn : Outcome → List ℕ → Status → Type 0
EndsIn o text status = (o.status ≡ status) × (o.text ≡ text)

-- the whole text of the outcome is written, and the run ends so
abbrev pub Ends : Option (List ℕ) → Option (List ℕ) → List ℕ → List ℕ → Outcome → Status → Type 0
Ends held holds waited waits o status = (status ≡ o.status) × Passes held holds (waited ++ o.text) waits

module _ {State Event : Type 0} (s : Serving State Event) where
  -- The first line of xs is cut off, this text is what it is answered with, `at` holds of the stage behind it, and the rest is left.
  pub record GoesOnAfter (stage : Stage State) (number : ℕ) (xs : List ℕ) (at : Stage State → Type 0) (text rest : List ℕ) : Type 0 where
    pub line : List ℕ
    pub cut : IsCutOff xs rest line
    pub lines : lines_of xs ≡ line ∷ lines_of rest
    pub later : Stage State
    pub does : turn s stage number line ≡ goes_on later text
    pub stands : at later

  -- the turn that ends the run so and says this is the first of what is still to come of the trace xs, from this stage and line number on, and the rest comes after it
  abbrev pub IsFirstTurn : Stage State → ℕ → List ℕ → (Stage State → Type 0) → Option Status → List ℕ → List ℕ → Type 0
  IsFirstTurn stage number xs at how said rest = MatchOption how (GoesOnAfter stage number xs at said rest) (EndsIn (text_from s stage number (lines_of xs)) said)

  -- Of a trace xs the bytes in front of what is left were taken. The text of the lines that were read whole went to the sink, behind what had waited, but for what waits.
  abbrev pub HasLinesText : Option (List ℕ) → Option (List ℕ) → List ℕ → List ℕ → List ℕ → List ℕ → Type 0
  HasLinesText held holds waited waits xs left =
      (taken : List ℕ) × (xs ≡ taken ++ left) × (lines : List (List ℕ)) × AreReadWhole taken left lines × Passes held holds (waited ++ lines_text s (opening s) 1 lines) waits

  -- Of a trace xs the bytes in front of what is left were taken, and the sink got the first line and all of the text of the lines that were read whole.
  abbrev pub HasReadText : Option (List ℕ) → Option (List ℕ) → List ℕ → List ℕ → Type 0
  HasReadText held holds xs left =
      (taken : List ℕ) × (xs ≡ taken ++ left) × (lines : List (List ℕ)) × AreReadWhole taken left lines × Appends held holds (s.first_line ++ lines_text s (opening s) 1 lines)
