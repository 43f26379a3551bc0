-- What contracts see of a numbering, and the live packets that it stands for.
use Rattle.std.specs.Prelude.{◌≡◌, ℕ, ◌+◌, ◌*◌, ◌<◌, ◌≤◌, List, length, Option, Some, None}
use Rattle.rams_model.specs.Packets.{Numbered, first, forward, backward, jump, restart, following, Arrival, stream_of, greatest}
use Rattle.reckoning.specs.declared.ext_seq.numbering.Noted.{Noted}
use Rattle.reckoning.specs.declared.ext_seq.numbering.Noted.TheVariants.{First, Forward, Behind, Jump, Restart}

-- what a numbering keeps
pub record Seen : Type 0 where
  -- the greatest number of the present start
  pub greatest : Option ℕ
  -- the sequence number that would begin a new start: the one after the last jump of this start
  pub kept : Option ℕ

-- no packet came
abbrev pub new_numbering : Seen
new_numbering = record { greatest = None; kept = None }

-- the answer for each number of the definitions
abbrev pub noted : Numbered → Noted
noted (first n) = First n
noted (forward n) = Forward n
noted (backward n) = Behind n
noted jump = Jump
noted (restart n) = Restart n

-- what is kept after the answer: a number from the greatest on is the greatest, a jump is remembered, a restart forgets it
abbrev pub moved : Seen → ℕ → Noted → Seen
moved v sequence (First n) = record v { greatest = Some n }
moved v sequence (Forward n) = record v { greatest = Some n }
moved v sequence (Behind n) = v
moved v sequence Jump = record v { kept = Some (following sequence) }
moved v sequence (Restart n) = record v { greatest = Some n; kept = None }

-- After so many packets the greatest number is that of a first packet, and at most 65,536 more for each packet.
abbrev pub IsWithin : ℕ → Option ℕ → Type 0
IsWithin packets None = Unit {0}
IsWithin packets (Some g) = (65536 ≤ g) × (g < 131072 + 65536 * packets)

-- so is a number that becomes the greatest
abbrev pub IsNumberWithin : ℕ → Noted → Type 0
IsNumberWithin packets (First n) = IsWithin packets (Some n)
IsNumberWithin packets (Forward n) = IsWithin packets (Some n)
IsNumberWithin packets (Restart n) = IsWithin packets (Some n)
IsNumberWithin packets (Behind n) = Unit {0}
IsNumberWithin packets Jump = Unit {0}

-- The numbering keeps what the definitions say of these live packets, the newest first, whichever of them were late.
pub record StandsFor (v : Seen) (window : ℕ) (arrivals : List Arrival) : Type 0 where
  pub greatest : v.greatest ≡ greatest (stream_of window arrivals).present
  pub kept : v.kept ≡ (stream_of window arrivals).kept
  pub within : IsWithin (length arrivals) v.greatest
