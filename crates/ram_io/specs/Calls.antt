-- The calls of an object in memory.
use Rattle.std.specs.Prelude.{ℕ, ◌+◌, ◌-◌, ◌^◌, min, Option, Some, None, List, Contains, IsSomeAnd, nat_lt, if◌then◌else◌}

-- The numbers, from 0, of the calls that fail; the next call's number, where it is below 2^64; and how often the object failed.
pub record Counts : Type 0 where
  pub fails : List ℕ
  pub next : Option ℕ
  pub faults : ℕ

-- The next call is one of those that fail.
abbrev pub IsFailing : Counts → Type 0
IsFailing counts = IsSomeAnd counts.next (Contains counts.fails)

-- The number after this one, where it is below 2^64.
abbrev pub number_after : Option ℕ → Option ℕ
number_after None = None
number_after (Some n) = if nat_lt (n + 1) (2 ^ 64) then Some (n + 1) else None

-- The counts after one more call.
abbrev pub called : Counts → Counts
called counts = record counts { next = number_after counts.next }

-- The counts after one more fault.
abbrev pub faulted : Counts → Counts
faulted counts = record counts { faults = min (counts.faults + 1) (2 ^ 64 - 1) }
