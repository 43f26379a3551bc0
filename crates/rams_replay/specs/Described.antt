-- What the status of `sdp` and of `describe` says.
use Rattle.std.specs.Prelude.{◌≡◌, ℕ, List, length, Option}
use Rattle.std.specs.Io.KnownBytes.{Appends}
use Rattle.line_io.specs.Passes.{Passes}
use Rattle.rams_model.specs.declared.Status.{Status}
use Rattle.rams_model.specs.declared.Status.TheVariants.{Done, NoMemory, ReadFault, WriteFault, BadTrace, BadSdp}
use Rattle.trace_loop.specs.trace_book.trace_serving.{Outcome}
use Rattle.trace_loop.specs.{IfTold}
use Rattle.rams_replay.specs.Statuses.{IsOrLacksMemory}

-- The command came to an end of its own, and the sink got exactly the text; or memory, the source or the sink stopped it. It ends in no other way.
abbrev pub HasReply : Option (List ℕ) → Option (List ℕ) → Outcome → Status → Type 0
HasReply held holds o Done = (o.status ≡ Done) × Appends held holds o.text
HasReply held holds o BadTrace = (o.status ≡ BadTrace) × Appends held holds o.text
HasReply held holds o BadSdp = (o.status ≡ BadSdp) × Appends held holds o.text
HasReply held holds o NoMemory = Unit {0}
HasReply held holds o ReadFault = Unit {0}
HasReply held holds o WriteFault = Unit {0}
HasReply held holds o _ = ⊥

-- What a command leaves that writes this of the bytes that its source has: what that source had, whether it was steady, what the sink held and holds, and for how many bytes it was steady.
pub record Replies (outcome : List ℕ → Outcome) (left : Option (List ℕ)) (calm : Type 0) (held holds : Option (List ℕ)) (room : ℕ → Type 0) (status : Status) : Type 0 where
  -- where it came to an end of its own, the sink got exactly the text, and the status is the text's
  pub text : IfTold left (λ xs. HasReply held holds (outcome xs) status)
  -- whatever ended it, the sink got a front of the text
  pub front : IfTold left (λ xs. (rest : List ℕ) × Passes held holds (outcome xs).text rest)
  -- over a steady source, and a sink that is steady for the whole text, it comes to its end, unless memory is lacking
  pub whole : calm → IfTold left (λ xs. room (length (outcome xs).text) → IsOrLacksMemory (outcome xs).status status)
