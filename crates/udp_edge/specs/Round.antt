-- The sockets that are ready, as the bits of a number, and the round in which they take turns.
use Rattle.std.specs.Prelude.{◌≡◌, ◌≢◌, ℕ, ◌+◌, ◌-◌, ◌%◌, ◌<◌, ◌≤◌}
use Rattle.std.specs.Int.{bit_at}

-- So many places behind the turn a place comes, round the 128 places.
abbrev pub steps_behind : ℕ → ℕ → ℕ
steps_behind turn place = (place + 128 - turn) % 128

-- This place is ready, and no other that is ready comes sooner behind the turn.
pub record IsNext (ready turn place : ℕ) : Type 0 where
  pub within : place < 128
  pub is_ready : bit_at ready place ≡ 1
  pub nearest : (other : ℕ) → other < 128 → bit_at ready other ≡ 1 → steps_behind turn place ≤ steps_behind turn other

-- This place has the bit now, and each other has the bit that it had.
pub record SetsBit (old new place bit : ℕ) : Type 0 where
  pub changed : bit_at new place ≡ bit
  pub others : (other : ℕ) → other < 128 → other ≢ place → bit_at new other ≡ bit_at old other

-- The place is ready, if it is one of the round.
abbrev pub IsReady : ℕ → ℕ → Type 0
IsReady ready place = place < 128 → bit_at ready place ≡ 1

-- Each place that was ready is ready still.
abbrev pub KeepsReady : ℕ → ℕ → Type 0
KeepsReady old new = (place : ℕ) → IsReady old place → IsReady new place
