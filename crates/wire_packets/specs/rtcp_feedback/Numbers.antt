-- The numbers of a NACK from some place on (RFC 4585, 6.2.1).
use Rattle.std.specs.Prelude.{ℕ, ◌+◌, ◌-◌, ◌%◌, ◌==◌, List, ◌++◌, map, filter}
use Rattle.std.specs.Int.{bit_at}
use Rattle.rams_model.specs.Formats.{counted_from, numbers_of}

-- the numbers that n bits of a word name, from bit i on
unfoldable pub marked_from : ℕ → ℕ → ℕ → ℕ → List ℕ
marked_from pid blp i n = map (λ i. (pid + i) % 65536) (filter (λ i. bit_at blp (i - 1) == 1) (counted_from i n))

-- those of a word from bit i on, and of the words behind it
unfoldable pub numbers_from : ℕ → ℕ → ℕ → List ℕ → List ℕ
numbers_from pid blp i words = marked_from pid blp i (17 - i) ++ numbers_of words
