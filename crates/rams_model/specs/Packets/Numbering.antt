-- The extended numbers of live packets (RFC 3550, A.1): a number within reach of the greatest so far, a jump, or a restart.
use Rattle.std.specs.Prelude.{ℕ, ◌+◌, ◌-◌, ◌%◌, Bool, false, ◌==◌, nat_lt, if◌then◌else◌, Option, Some, None}

-- how far 16 bits are ahead of a number, modulo 65,536
abbrev pub ahead : ℕ → ℕ → ℕ
ahead low n = (low + 65536 - n % 65536) % 65536

-- the least number from n on with these low 16 bits
abbrev pub least_from : ℕ → ℕ → ℕ
least_from n low = n + ahead low n

-- What the numbering makes of a sequence number.
pub data Numbered : Type 0 where
  -- the number of the first packet of all
  first : ℕ → Numbered
  -- a number from the greatest of the present start on
  forward : ℕ → Numbered
  -- a number below it
  backward : ℕ → Numbered
  -- too far from it
  jump : Numbered
  -- too far from it too, but next to the jump before: a new start begins under this number
  restart : ℕ → Numbered

-- the sequence number that follows another
abbrev pub following : ℕ → ℕ
following sequence = (sequence + 1) % 65536

-- the sequence number follows that of the last jump, which was kept
abbrev pub is_kept : Option ℕ → ℕ → Bool
is_kept None sequence = false
is_kept (Some kept) sequence = sequence == kept

-- Fewer than 3,000 ahead, or at most 99 behind, is within reach; all else jumps, and restarts where it follows a jump (RFC 3550, A.1).
abbrev pub after_greatest : ℕ → Option ℕ → ℕ → ℕ → Numbered
after_greatest greatest kept sequence u =
    if nat_lt u 3000 then forward (greatest + u)
    else if nat_lt 65436 u then backward (greatest - (65536 - u))
    else if is_kept kept sequence then restart (greatest + u)
    else jump

-- The number of a packet with this sequence number, by the greatest number of the present start and the kept value.
unfoldable pub numbered : Option ℕ → Option ℕ → ℕ → Numbered
numbered None kept sequence = first (65536 + sequence)
numbered (Some greatest) kept sequence = after_greatest greatest kept sequence (ahead sequence greatest)
