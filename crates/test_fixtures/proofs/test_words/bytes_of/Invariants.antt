use Rattle.std.proofs.Common.{◌≡◌, flat_map, take}
use Rattle.test_fixtures.specs.test_words.{bytes_in}
use Rattle.test_fixtures.proofs.test_words.bytes_of.Given as goal

-- the bytes of the words so far
abbrev pub invariant-loop-word : goal.invariant-loop-word
invariant-loop-word l = l.bytes.items ≡ flat_map (λ word. bytes_in word.now) (take l.word-index l.words)
