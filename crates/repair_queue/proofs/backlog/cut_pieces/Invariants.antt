use Rattle.std.proofs.Common.{◌≡◌, ◌+◌, ◌++◌, length}
use Rattle.repair_queue.specs.{all_of}
use Rattle.repair_queue.proofs.backlog.cut_pieces.Given as goal

-- all are there still
abbrev pub invariant-loop-pieces : goal.invariant-loop-pieces
invariant-loop-pieces l = record {
  same : all_of l.pieces.items ++ l.last ≡ all_of l.fn.pieces.items ++ l.fn.last;
  count : length (all_of l.pieces.items) ≡ length (all_of l.fn.pieces.items) + l.count;
}

abbrev pub decreases-loop-pieces : goal.decreases-loop-pieces
decreases-loop-pieces l = length l.last
