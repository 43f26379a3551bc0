use Rattle.std.proofs.Common.{◌≡◌, flat_map, take}
use Rattle.std.specs.Int.{to_be_bytes, w32}
use Rattle.test_fixtures.proofs.test_channel.bytes_of.Given as goal

-- the words so far
abbrev pub invariant-loop-word : goal.invariant-loop-word
invariant-loop-word l = l.bytes.items ≡ flat_map (to_be_bytes w32) (take l.word-index l.words)
