use Rattle.std.proofs.Common.{arith}
use Rattle.repair_queue.proofs.index.Index.end_run.Goals as goal

pub returns : goal.returns
returns c = λ ws owes. record {
  pairs = owes.pairs;
  counts = λ whole k. omega (arith, owes.counts whole k, c.take.ensures k);
}
