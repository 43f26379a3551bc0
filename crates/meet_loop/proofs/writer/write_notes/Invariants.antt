use Rattle.std.proofs.Common.{◌-◌, ◌≤◌, ◌++◌, drop, length}
use Rattle.meet_loop.specs.world_text.{notes_lines}
use Rattle.trace_loop.proofs.Writing.{IsWriting}
use Rattle.meet_loop.proofs.writer.write_notes.Given as goal

abbrev pub invariant-loop-written : goal.invariant-loop-written
invariant-loop-written g l = record {
  within : l.written ≤ length l.notes;
  lines : IsWriting (g.K.Sink.held l.fn.sink) (g.K.Sink.held l.sink) (g.K.Sink.faults l.fn.sink) (g.K.Sink.faults l.sink) (g.K.Sink.is_steady l.fn.sink) (g.K.Sink.is_steady l.sink)
      (l.fn.writer.gather ++ notes_lines l.event l.notes) l.writer.gather (notes_lines l.event (drop l.written l.notes));
}

abbrev pub decreases-loop-written : goal.decreases-loop-written
decreases-loop-written g l = length l.notes - l.written
