-- The rate of a burst, the time until it has caught up, and where it stops.
use Rattle.std.specs.Prelude.{ℕ, ◌+◌, ◌-◌, ◌*◌, ◌/◌, min, max, Option, Some, None}
use Rattle.rams_model.specs.Packets.{least_from}

-- bits per second as bytes in a tick of so many ms
abbrev pub bytes_of : ℕ → ℕ → ℕ
bytes_of bps tick = bps * tick / 8000

-- bytes in a tick as bits per second
abbrev pub bits_of : ℕ → ℕ → ℕ
bits_of rate tick = rate * 8000 / tick

-- A burst's rate: the most that a client is sent in a tick, or what the client can receive where that is less (RFC 6285, 7.2).
abbrev pub rate_of : Option ℕ → ℕ → ℕ → ℕ
rate_of None tick burst = burst
rate_of (Some bps) tick burst = min burst (bytes_of bps tick)

-- a divided by b, rounded up
abbrev pub ceiling : ℕ → ℕ → ℕ
ceiling a b = (a + (b - 1)) / b

-- The most of a tick's budget that is lost to a burst, because the next packet, of at most 1,500 bytes, doesn't fit: what it can't keep of it.
abbrev pub waste : ℕ → ℕ
waste depth = 1499 - min depth 1499

-- After how many ticks a burst has caught up with the source: the bytes behind, by what a tick gains on them.
abbrev pub join_ticks : ℕ → ℕ → ℕ → ℕ → ℕ
join_ticks behind rate declared depth = ceiling behind (rate - waste depth - declared)

-- The packet before which a burst stops: the least from its first on with the low 16 bits that the RAMS-T names, or the next where that was sent or nothing is named (RFC 6285, 7.4).
abbrev pub stop_of : ℕ → ℕ → Option ℕ → ℕ
stop_of first next None = next
stop_of first next (Some named) = max next (least_from first named)
