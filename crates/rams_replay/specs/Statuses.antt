-- What the status of a command says.
use Rattle.std.specs.Prelude.{◌≡◌, ℕ, ◌≤◌, ◌⊎◌, Bool, true, false, List, length, Option, Result, Ok, Err}
use Rattle.std.specs.Io.KnownBytes.{Appends}
use Rattle.line_io.specs.Passes.{Passes}
use Rattle.ram_io.specs.{Rose}
use Rattle.rams_model.specs.declared.Status.{Status}
use Rattle.rams_model.specs.declared.Status.TheVariants.{Done, NoMemory, Words, ReadFault, WriteFault, BadTrace, WireFault, TooLong}
use Rattle.trace_loop.specs.trace_book.trace_serving.{Serving, Outcome, served_text}
use Rattle.trace_loop.specs.declared.Stop.{Stop}
use Rattle.trace_loop.specs.declared.Stop.TheVariants.{Memory, Read, Write, Wire}
use Rattle.trace_loop.specs.{IfTold, IfBothTold, HasReadText}

-- the status of a run
abbrev pub status_of : Result Status Stop → Status
status_of (Ok status) = status
status_of (Err Memory) = NoMemory
status_of (Err Read) = ReadFault
status_of (Err Write) = WriteFault
status_of (Err Wire) = WireFault

-- the words are refused
abbrev pub is_words : Status → Bool
is_words Words = true
is_words _ = false

-- the run came to an end of its own, and the sink got exactly the text
abbrev pub HasText : Option (List ℕ) → Option (List ℕ) → Outcome → Status → Type 0
HasText held holds o Done = (o.status ≡ Done) × Appends held holds o.text
HasText held holds o BadTrace = (o.status ≡ BadTrace) × Appends held holds o.text
HasText held holds o TooLong = (o.status ≡ TooLong) × Appends held holds o.text
HasText held holds o _ = Unit {0}

-- The sink got exactly the text where the command is done, and else, where memory or the sink stopped it, a front of it. It ends in no other way.
abbrev pub HasSummary : Option (List ℕ) → Option (List ℕ) → List ℕ → Status → Type 0
HasSummary held holds text Done = Appends held holds text
HasSummary held holds text NoMemory = (rest : List ℕ) × Passes held holds text rest
HasSummary held holds text WriteFault = (rest : List ℕ) × Passes held holds text rest
HasSummary held holds text _ = ⊥

-- the object's faults rose where the status names it; a run has no wire
abbrev pub HasFault : ℕ → ℕ → ℕ → ℕ → Status → Type 0
HasFault read reads write writes ReadFault = Rose read reads
HasFault read reads write writes WriteFault = Rose write writes
HasFault read reads write writes WireFault = ⊥
HasFault read reads write writes _ = Unit {0}

-- No count of faults fell, and a status that names an object has its cause.
pub record IsCaused (read reads write writes : ℕ) (status : Status) : Type 0 where
  pub read_later : read ≤ reads
  pub write_later : write ≤ writes
  pub cause : HasFault read reads write writes status

-- the status, or want of memory
abbrev pub IsOrLacksMemory : Status → Status → Type 0
IsOrLacksMemory status NoMemory = Unit {0}
IsOrLacksMemory status other = other ≡ status

-- What a command leaves that writes the text of the trace that its source has: what that source had and has left, whether it was steady, what the sink held and holds, its counts of faults, and for how many bytes it was steady.
pub record Writes {State Event : Type 0} (s : Serving State Event) (left leaves : Option (List ℕ)) (calm : Type 0) (held holds : Option (List ℕ)) (before now : ℕ) (room : ℕ → Type 0) (status : Status) : Type 0 where
  -- where it came to an end of its own, the sink got exactly the text, and the status is the text's
  pub text : IfTold left (λ xs. HasText held holds (served_text s xs) status)
  -- whatever ended it, the sink got a front of the text
  pub front : IfTold left (λ xs. (rest : List ℕ) × Passes held holds (served_text s xs).text rest)
  -- where the source failed, it got all of the text of the lines that were read whole, unless it failed too
  pub read : status ≡ ReadFault → IfBothTold left leaves (HasReadText s held holds) ⊎ Rose before now
  -- over a steady source, and a sink that is steady for the whole text, it comes to its end, unless memory is lacking
  pub whole : calm → IfTold left (λ xs. room (length (served_text s xs).text) → IsOrLacksMemory (served_text s xs).status status)
