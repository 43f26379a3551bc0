-- The window of a buffer, and bytes that grow.
use Rattle.std.specs.Prelude.{◌≡◌, ℕ, ◌≤◌, List, ◌++◌, length}
use Rattle.converters.specs.declared.capture_loop.intake.TheConstants.{ROOM}

-- the window is a range of the buffer
pub record IsWindow (from to : ℕ) (bytes : List ℕ) : Type 0 where
  pub ordered : from ≤ to
  pub within : to ≤ ROOM
  pub size : length bytes ≡ ROOM

-- some bytes, and what stands behind them
pub record BeginsWith (front bytes : List ℕ) : Type 0 where
  pub more : List ℕ
  pub whole : bytes ≡ front ++ more
