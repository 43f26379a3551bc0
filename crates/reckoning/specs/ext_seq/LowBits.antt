-- Numbers that are named by their low 16 bits.
use Rattle.std.specs.Prelude.{◌≡◌, ℕ, ◌%◌, ◌<◌, ◌≤◌}

-- a number from `lo` on and below `hi` with these low 16 bits
pub record IsResolved (lo hi low n : ℕ) : Type 0 where
  pub from : lo ≤ n
  pub below : n < hi
  pub bits : n % 65536 ≡ low

-- the least number from `first` on with these low 16 bits
pub record IsLeastFrom (first low n : ℕ) : Type 0 where
  pub from : first ≤ n
  pub bits : n % 65536 ≡ low
  pub least : (m : ℕ) → first ≤ m → m % 65536 ≡ low → n ≤ m
