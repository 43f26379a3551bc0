use Rattle.std.proofs.Common.{take}
use Rattle.repair_queue.specs.{Spans}
use Rattle.repair_queue.proofs.piece.span_of.Given as goal

-- those so far are in the span
abbrev pub invariant-loop-wanted : goal.invariant-loop-wanted
invariant-loop-wanted l = Spans l.span (take l.wanted-index l.pending)
