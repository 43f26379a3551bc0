-- A stop is the least number with the low bits that are named.
use Rattle.std.proofs.Common.{ℕ, arith, ◌≤◌, Option, Some, None}
use Rattle.rams_model.specs.Packets.{least_from}
use Rattle.rams_model.specs.Laws.{IsLeastNamed}
use Rattle.rams_model.specs.Service.{stop_of}

pub least_named : (first named : ℕ) → IsLeastNamed first named (least_from first named)
least_named first named = record { from = omega arith; low = omega arith; least = λ m le e. omega (arith, le, e) }

-- it is at or above what is sent next
pub stop_from_next : (first next : ℕ) (named : Option ℕ) → next ≤ stop_of first next named
stop_from_next first next None = omega arith
stop_from_next first next (Some low) = omega arith
