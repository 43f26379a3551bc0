-- What a line of a trace does, as code has it.
use Rattle.std.specs.Prelude.{◌≡◌, ℕ, List, [], Option, Some, None}
use Rattle.rams_model.specs.declared.Status.{Status}
use Rattle.rams_model.specs.declared.Status.TheVariants as statuses
use Rattle.trace_loop.specs.trace_book.trace_serving.{Stage, goes_on, ends, refused, too_long, done}
use Rattle.trace_loop.specs.trace_book.trace_serving.Text as text
use Rattle.trace_loop.specs.declared.turn.Turn.{Turn}
use Rattle.trace_loop.specs.declared.turn.Turn.TheVariants.{GoesOn, Said, Refused, TooLong, Done}

-- how a turn ends the run, if it does
abbrev pub ending : {A : Type 0} → Turn A → Option Status
ending GoesOn = None
ending (Said a) = None
ending (Refused fault) = Some statuses.BadTrace
ending TooLong = Some statuses.TooLong
ending (Done events) = Some statuses.Done

-- a status with which a trace ends
abbrev pub IsEnd : Status → Type 0
IsEnd statuses.Done = Unit {0}
IsEnd statuses.BadTrace = Unit {0}
IsEnd statuses.TooLong = Unit {0}
IsEnd _ = ⊥

-- the line with which a turn ends the run, at the line of this number
abbrev pub last_line : {A : Type 0} → ℕ → Turn A → List ℕ
last_line number (Refused fault) = (refused number fault).text
last_line number TooLong = too_long.text
last_line number (Done events) = (done events).text
last_line number _ = []

-- what is written for a turn, at the line of this number, where an answer has these lines
abbrev pub written : {A : Type 0} → (A → List ℕ) → ℕ → Turn A → List ℕ
written lines number (Said a) = lines a
written lines number t = last_line number t

-- it stands for some stage
abbrev pub StandsSomewhere : {State : Type 0} → (Stage State → Type 0) → Type 0
StandsSomewhere {State} at = (stage : Stage State) × at stage

-- The line's turn was taken: it ends the run as it should, this is said, and where it goes on, this stands for the stage behind it.
abbrev pub Took : {State : Type 0} → text.Turn State → (Stage State → Type 0) → Option Status → List ℕ → Type 0
Took (goes_on later text) at how said = at later × (how ≡ None) × (said ≡ text)
Took (ends o) at how said = (how ≡ Some o.status) × (said ≡ o.text)
