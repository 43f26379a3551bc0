-- What the status of `pcap` says.
use Rattle.std.specs.Prelude.{◌≡◌, ℕ, ◌⊎◌, List, length, Option}
use Rattle.std.specs.Io.KnownBytes.{Appends}
use Rattle.line_io.specs.Passes.{Passes}
use Rattle.rams_model.specs.declared.Status.{Status}
use Rattle.rams_model.specs.declared.Status.TheVariants.{Done, NoMemory, ReadFault, WriteFault, BadTrace, TooLong, BadCapture}
use Rattle.ram_io.specs.{Rose}
use Rattle.trace_loop.specs.trace_book.trace_serving.{Outcome}
use Rattle.trace_loop.specs.{IfTold, IfBothTold}
use Rattle.converters.specs.capture_loop.{HasReadCapture, IsTrace, capture_text}
use Rattle.rams_replay.specs.Statuses.{IsOrLacksMemory}

-- The command came to an end of its own, and the sink got exactly the text; or memory, the source or the sink stopped it. It ends in no other way.
abbrev pub HasCapture : Option (List ℕ) → Option (List ℕ) → Outcome → Status → Type 0
HasCapture held holds o Done = (o.status ≡ Done) × Appends held holds o.text
HasCapture held holds o BadTrace = (o.status ≡ BadTrace) × Appends held holds o.text
HasCapture held holds o BadCapture = (o.status ≡ BadCapture) × Appends held holds o.text
HasCapture held holds o TooLong = (o.status ≡ TooLong) × Appends held holds o.text
HasCapture held holds o NoMemory = Unit {0}
HasCapture held holds o ReadFault = Unit {0}
HasCapture held holds o WriteFault = Unit {0}
HasCapture held holds o _ = ⊥

-- What `pcap PORT` leaves: what its source had and has left, whether it was steady, what the sink held and holds, its counts of faults, and for how many bytes it was steady.
pub record WritesCapture (port : ℕ) (left leaves : Option (List ℕ)) (calm : Type 0) (held holds : Option (List ℕ)) (before now : ℕ) (room : ℕ → Type 0) (status : Status) : Type 0 where
  -- where it came to an end of its own, the sink got exactly the text, and the status is the text's
  pub text : IfTold left (λ xs. HasCapture held holds (capture_text port xs) status)
  -- where it is done, the text is a journal, which `run` reads to its end
  pub trace : status ≡ Done → IfTold left (IsTrace port)
  -- whatever ended it, the sink got a front of the text
  pub front : IfTold left (λ xs. (rest : List ℕ) × Passes held holds (capture_text port xs).text rest)
  -- where the source failed, it got the lines of what was read whole, unless it failed too
  pub read : status ≡ ReadFault → IfBothTold left leaves (HasReadCapture port held holds) ⊎ Rose before now
  -- over a steady source, and a sink that is steady for the whole text, it comes to its end, unless memory is lacking
  pub whole : calm → IfTold left (λ xs. room (length (capture_text port xs).text) → IsOrLacksMemory (capture_text port xs).status status)
