use Rattle.cache_tests.proofs.sequence_numbers.expect_list.Goals as goal

pub loop-seq-preserved : goal.loop-seq-preserved
loop-seq-preserved g c = (c.note.ensures.rises c.loop-seq.seq-index c.loop-seq.invariant.0, c.loop-seq.invariant.1)
