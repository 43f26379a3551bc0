use Rattle.repair_queue.proofs.Marked.{MovedUp}
use Rattle.repair_queue.proofs.places.move_unmarked.Given as goal

-- The unmarked ones from here on stand right before the rest, and what is in front is as it was.
abbrev pub invariant-loop-end : goal.invariant-loop-end
invariant-loop-end l = MovedUp l.fn.pending l.pending l.done l.start l.end

abbrev pub decreases-loop-end : goal.decreases-loop-end
decreases-loop-end l = l.end
