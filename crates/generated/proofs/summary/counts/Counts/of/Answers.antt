use Rattle.std.proofs.Common.{arith}
use Rattle.generated.proofs.summary.Counting.{counts_of_some, counts_more}
use Rattle.generated.proofs.summary.counts.Counts.of.Goals as goal

pub count-requires : goal.count-requires
count-requires c = counts_of_some c.loop-note.counts c.args.notes.now c.loop-note.note-index _ c.loop-note.invariant (omega arith) (omega arith)

pub loop-note-preserved : goal.loop-note-preserved
loop-note-preserved c = counts_more c.loop-note.counts c.count.new.self c.args.notes.now c.loop-note.note-index _ c.loop-note.invariant (omega arith) c.count.ensures

pub returns-clause-few : goal.returns-clause-few
returns-clause-few c = counts_of_some c.loop-note.counts c.args.notes.now c.loop-note.note-index _ c.loop-note.invariant (omega arith) (omega arith)
