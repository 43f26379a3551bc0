-- Which lines of a trace are taken, what they say, and what is written for their events.
use Rattle.std.specs.Prelude.{ℕ, ◌+◌, List, [], ◌∷◌, ◌++◌, length, reverse, filter_map, Option, Some, None, option_and_then}
use Rattle.rams_model.specs.declared.Channel.{Channel}
use Rattle.rams_model.specs.Texts.{lines_of, TraceLine, head_line, channel_line, line_of, Head}
use Rattle.trace_loop.specs.trace_book.trace_serving.Text.{Serving, Stage, Turn, goes_on, ends, turn, opening, brought}

-- the channel that a line opens
abbrev pub channel_of_line : TraceLine → Option Channel
channel_of_line (channel_line version c) = Some c
channel_of_line _ = None

abbrev pub channel_at : List ℕ → Option Channel
channel_at bytes = option_and_then channel_of_line (line_of bytes)

-- the head that a line says
abbrev pub head_of_line : TraceLine → Option Head
head_of_line (head_line version tick link) = Some (record { version = version; tick = tick; link = link })
head_of_line _ = None

abbrev pub head_at : List ℕ → Option Head
head_at bytes = option_and_then head_of_line (line_of bytes)

-- a line, where its turn goes on, and those that are taken behind it
abbrev pub taken_with : {State : Type 0} → List ℕ → Turn State → (Stage State → List (List ℕ)) → List (List ℕ)
taken_with bytes (goes_on later text) rest = bytes ∷ rest later
taken_with bytes (ends o) rest = []

module _ {State Event : Type 0} (s : Serving State Event) where
  -- the event that a line of these bytes brings
  abbrev pub event_at : List ℕ → Option Event
  event_at bytes = option_and_then (brought s) (line_of bytes)

  unfoldable pub taken_from : Stage State → ℕ → List (List ℕ) → List (List ℕ)
  taken_from stage number [] = []
  taken_from stage number (bytes ∷ lines) = taken_with bytes (turn s stage number bytes) (λ later. taken_from later (number + 1) lines)

  -- The lines of a trace that are taken: those before the one that ends it.
  abbrev pub taken : List ℕ → List (List ℕ)
  taken trace = taken_from (opening s) 1 (lines_of trace)

  -- what came: the events of the lines that are taken, the newest first
  abbrev pub came : List ℕ → List Event
  came trace = reverse (filter_map event_at (taken trace))

  -- after these events, the newest first
  unfoldable pub after_all : List Event → State → State
  after_all [] state = state
  after_all (e ∷ events) state = s.after e (after_all events state)

  -- What these events, the newest first, are answered with; they are counted from 1.
  unfoldable pub events_text : List Event → State → List ℕ
  events_text [] state = []
  events_text (e ∷ events) state = events_text events state ++ s.text (length events + 1) e (after_all events state)
