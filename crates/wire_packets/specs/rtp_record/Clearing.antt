-- The bit that announces padding.
use Rattle.std.specs.Prelude.{ℕ, ◌+◌, ◌*◌, ◌/◌, ◌%◌}

-- a packet's first byte with bit 5 cleared (RFC 3550, 5.1)
abbrev pub without_padding_bit : ℕ → ℕ
without_padding_bit first = first / 64 * 64 + first % 32
