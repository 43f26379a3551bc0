use Rattle.std.proofs.Common.{◌<◌, length}
use Rattle.reckoning.specs.ext_seq.{IsWithin}
use Rattle.cache_tests.proofs.sequence_numbers.expect_list.Given as goal

-- each sequence number so far raised the greatest number by little
abbrev pub invariant-loop-seq : goal.invariant-loop-seq
invariant-loop-seq g l = IsWithin l.seq-index l.numbering.greatest × (length l.list < 100)
