-- The draws of a seed, by which sizes, clients and lost packets are chosen.
use Rattle.std.specs.Prelude.{ℕ, ◌+◌, ◌*◌, ◌/◌, ◌%◌, ◌^◌, zero, suc}

-- the next state: a linear congruence modulo 2^64 (Knuth's for MMIX)
abbrev pub stepped : ℕ → ℕ
stepped x = (x * 6364136223846793005 + 1442695040888963407) % 2 ^ 64

-- the state after n draws: the seed before the first
unfoldable pub state : ℕ → ℕ → ℕ
state seed zero = seed
state seed (suc n) = stepped (state seed n)

-- draw n of a seed, the first of them 0: the upper 31 bits of the state that it steps to
abbrev pub drawn : ℕ → ℕ → ℕ
drawn seed n = state seed (n + 1) / 2 ^ 33
