-- What is promised of a capture that is written.
use Rattle.std.specs.Prelude.{◌≡◌, ℕ, ◌⊎◌, List, [], ◌++◌, length, Option}
use Rattle.std.specs.Io.KnownBytes.{Appends}
use Rattle.rams_model.specs.declared.Status.{Status}
use Rattle.rams_model.specs.declared.Status.TheVariants.{Done, BadTrace, BadCapture, TooLong}
use Rattle.trace_loop.specs.trace_book.trace_serving.{done, ended}
use Rattle.trace_loop.specs.trace_book.{first_line, trace_text}
use Rattle.trace_loop.specs.journal_book.{IsJournal, event_lines, journal_of, text_for}
use Rattle.trace_loop.specs.head_loop.{IsCutBefore, behind_head, head_end, head_stage, head_text}
use Rattle.converters.specs.capture_loop.Events.{file_events}
use Rattle.converters.specs.capture_loop.Text.{capture_events, capture_text, head_clock}

-- a status with which a capture ends
abbrev pub IsCaptureEnd : Status → Type 0
IsCaptureEnd Done = Unit {0}
IsCaptureEnd BadTrace = Unit {0}
IsCaptureEnd BadCapture = Unit {0}
IsCaptureEnd TooLong = Unit {0}
IsCaptureEnd _ = ⊥

-- Of a head and a file the bytes in front of what is left were taken: the file's part of them is this, and the sink got the lines of the head and of the events of its whole records.
pub record HasFilePart (port : ℕ) (held holds : Option (List ℕ)) (xs left : List ℕ) : Type 0 where
  pub end : head_end xs ≡ done 0
  pub part : List ℕ
  pub behind : behind_head xs ≡ part ++ left
  pub text : Appends held holds (head_text xs ++ event_lines (file_events port (head_stage xs).state (head_clock xs) part))

-- What the sink got of what was read whole: nothing where the head's `end` wasn't, else the lines of the head and of the events of the records that were.
abbrev pub HasReadCapture : ℕ → Option (List ℕ) → Option (List ℕ) → List ℕ → List ℕ → Type 0
HasReadCapture port held holds xs left = (IsCutBefore xs left × Appends held holds []) ⊎ HasFilePart port held holds xs left

-- The text is a journal of the events of the file's records: a trace that `run` reads to its end, and for which it writes what these events are answered with.
pub record IsTrace (port : ℕ) (xs : List ℕ) : Type 0 where
  pub journal : IsJournal (head_text xs) (head_stage xs).state (capture_events port xs)
  pub text : (capture_text port xs).text ≡ journal_of (head_text xs) (capture_events port xs)
  pub runs : trace_text (capture_text port xs).text
      ≡ ended Done (first_line ++ (text_for 0 (head_stage xs).state (capture_events port xs) ++ (done (length (capture_events port xs))).text))
