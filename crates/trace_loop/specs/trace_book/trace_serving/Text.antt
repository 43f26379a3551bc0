-- The text that is written for a trace, whatever serves it.
use Rattle.std.specs.Prelude.{ℕ, ◌+◌, nat_lt, if◌then◌else◌, Bool, List, [], ◌∷◌, ◌++◌, Option, None, Some, Result, Ok, Err, codes}
use Rattle.rams_model.specs.declared.{LineFault.LineFault, Mode.Mode, Status.Status}
use Rattle.rams_model.specs.declared.LineFault.TheVariants as fault
use Rattle.rams_model.specs.declared.Status.TheVariants.{Done, BadTrace, TooLong}
use Rattle.rams_model.specs.Service.{Settings, settings}
use Rattle.rams_model.specs.Texts.{lines_of, TraceLine, head_line, channel_line, end_line, Reached, nothing_reached, tick_of, judged, spaced, refused_line}

-- What serves a trace: a state that its lines change, and what they bring.
pub record Serving (State Event : Type 0) : Type 0 where
  -- what a trace is read for
  pub mode : Mode
  -- most events
  pub most : ℕ
  -- the first line of the text
  pub first_line : List ℕ
  -- before the first line
  pub start : State
  -- the event that an event line brings, if it brings one
  pub event_of : TraceLine → Option Event
  -- with one more channel, of these settings
  pub opened : Settings → State → State
  -- after an event
  pub after : Event → State → State
  -- the lines of what the event of this number is answered with
  pub text : ℕ → Event → State → List ℕ
  -- whether an event may lead here; else it is one too many
  pub fits : State → Bool

-- What stands before a line.
pub record Stage (State : Type 0) : Type 0 where
  -- the lines so far
  pub reached : Reached
  pub state : State
  -- the events so far
  pub events : ℕ

-- A trace's end, and the text.
pub record Outcome : Type 0 where
  pub status : Status
  pub text : List ℕ

abbrev pub ended : Status → List ℕ → Outcome
ended status text = record { status = status; text = text }

-- What a line does: it goes on to the next after some text, or ends the run with some text.
pub data Turn (State : Type 0) : Type 0 where
  goes_on : Stage State → List ℕ → Turn State
  ends : Outcome → Turn State

abbrev pub done : ℕ → Outcome
done events = ended Done (codes "done" ++ spaced events ++ codes "\n")

-- the line of this number is refused
abbrev pub refused : ℕ → LineFault → Outcome
refused number fault = ended BadTrace (refused_line number fault)

-- an event is one too many
abbrev pub too_long : Outcome
too_long = ended TooLong (codes "too-long\n")

-- the same outcome after some text
abbrev pub after_text : List ℕ → Outcome → Outcome
after_text text o = record o { text = text ++ o.text }

-- the outcome of a turn, with that of the rest of the trace where it goes on
abbrev pub after_turn : {State : Type 0} → Turn State → (Stage State → Outcome) → Outcome
after_turn (goes_on later text) rest = after_text text (rest later)
after_turn (ends o) rest = o

-- the stage where a turn ends the trace, or where the rest of the trace does
abbrev pub stage_after : {State : Type 0} → Stage State → Turn State → (Stage State → Stage State) → Stage State
stage_after stage (goes_on later text) rest = rest later
stage_after stage (ends o) rest = stage

-- the text of a turn, with that of the lines behind it where it goes on
abbrev pub text_after : {State : Type 0} → Turn State → (Stage State → List ℕ) → List ℕ
text_after (goes_on later text) rest = text ++ rest later
text_after (ends o) rest = o.text

module _ {State Event : Type 0} (s : Serving State Event) where
  abbrev pub opening : Stage State
  opening = record { reached = nothing_reached s.mode; state = s.start; events = 0 }

  -- the event that a line brings
  abbrev pub brought : TraceLine → Option Event
  brought (head_line version tick link) = None
  brought (channel_line version c) = None
  brought end_line = None
  brought line = s.event_of line

  -- An event is counted before anything else is asked of it. One too many ends the trace, and so does one that leads where it may not.
  abbrev pub counted : Stage State → Reached → Event → Turn State
  counted stage reached e =
      if nat_lt stage.events s.most then
      if s.fits (s.after e stage.state) then
      goes_on (record { reached = reached; state = s.after e stage.state; events = stage.events + 1 }) (s.text (stage.events + 1) e stage.state)
      else ends too_long
      else ends too_long

  -- the state behind a line that brings no event: with one channel more where the line opens it
  abbrev pub with_opened : Reached → TraceLine → State → State
  with_opened reached (channel_line version c) state = s.opened (settings c (tick_of reached.head)) state
  with_opened reached _ state = state

  -- a line that brings no event
  abbrev pub eventless : Stage State → Reached → TraceLine → Turn State
  eventless stage reached end_line = ends (done stage.events)
  eventless stage reached line = goes_on (record { reached = reached; state = with_opened reached line stage.state; events = stage.events }) []

  -- a line that may come, by the event that it brings
  abbrev pub after_line : Stage State → Reached → TraceLine → Option Event → Turn State
  after_line stage reached line None = eventless stage reached line
  after_line stage reached line (Some e) = counted stage reached e

  abbrev pub after_judging : Stage State → ℕ → Result (TraceLine × Reached) LineFault → Turn State
  after_judging stage number (Ok read) = after_line stage read.1 read.0 (brought read.0)
  after_judging stage number (Err fault) = ends (refused number fault)

  -- what line number `number` does, at this stage
  unfoldable pub turn : Stage State → ℕ → List ℕ → Turn State
  turn stage number bytes = after_judging stage number (judged stage.reached bytes)

  -- the rest of a trace from line number `number` on; where the lines end before `end`, the missing line is out of order
  unfoldable pub text_from : Stage State → ℕ → List (List ℕ) → Outcome
  text_from stage number [] = refused number fault.Order
  text_from stage number (bytes ∷ lines) = after_turn (turn stage number bytes) (λ later. text_from later (number + 1) lines)

  -- how the trace ends, and its text
  unfoldable pub served_text : List ℕ → Outcome
  served_text trace = after_text s.first_line (text_from opening 1 (lines_of trace))

  unfoldable pub stage_from : Stage State → ℕ → List (List ℕ) → Stage State
  stage_from stage number [] = stage
  stage_from stage number (bytes ∷ lines) = stage_after stage (turn stage number bytes) (λ later. stage_from later (number + 1) lines)

  -- what stands where the trace ends
  abbrev pub last_stage : List ℕ → Stage State
  last_stage trace = stage_from opening 1 (lines_of trace)

  -- The text of these lines, the first of which is line number `number`; of those that are still to come it has nothing.
  unfoldable pub lines_text : Stage State → ℕ → List (List ℕ) → List ℕ
  lines_text stage number [] = []
  lines_text stage number (bytes ∷ lines) = text_after (turn stage number bytes) (λ later. lines_text later (number + 1) lines)
