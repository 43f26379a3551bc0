-- The amounts of a channel's budget, in bytes.
use Rattle.std.specs.Prelude.{ℕ, ◌+◌, ◌<◌, ◌≤◌, ◌^◌}

-- What a channel may send in a tick, what of it bursts leave to repairs, what it keeps from tick to tick at most; what bursts have reserved, and what is left.
pub record Amounts : Type 0 where
  pub share : ℕ
  pub reserve : ℕ
  pub swell : ℕ
  pub reserved : ℕ
  pub left : ℕ

abbrev pub amounts : ℕ → ℕ → ℕ → ℕ → ℕ → Amounts
amounts share reserve swell reserved left =
    record { share = share; reserve = reserve; swell = swell; reserved = reserved; left = left }

-- What is reserved leaves the reserve, and what is left is at most a share with all that is kept.
pub record AreWithinShare (a : Amounts) : Type 0 where
  pub reserves : a.reserved + a.reserve ≤ a.share
  pub lasts : a.left ≤ a.share + a.swell
  pub holds : a.share + a.swell < 2 ^ 64

-- One amount more fits into the share, beside what is reserved and what is left to repairs.
abbrev pub HasRoom : Amounts → ℕ → Type 0
HasRoom a amount = a.reserved + amount + a.reserve ≤ a.share
