use Rattle.std.proofs.Common.{ℕ, ◌+◌}
use Rattle.channel_cache.specs.{StandsForFewer}
use Rattle.cache_tests.proofs.live_packets.expect_noted.Given as goal

-- each packet so far was counted
abbrev pub invariant-loop-sequence : goal.invariant-loop-sequence
invariant-loop-sequence g l = (most : ℕ) → StandsForFewer l.fn.cache most → StandsForFewer l.cache (most + l.sequence-index)
