use Rattle.std.proofs.Common.{◌++◌, ◌+◌, drop}
use Rattle.trace_loop.proofs.Writing.{IsWriting}
use Rattle.pool.specs.pool_loop.{all_left, walk_text}
use Rattle.pool.proofs.pool_loop.writing.write_events.Given as goal

abbrev pub invariant-loop-place : goal.invariant-loop-place
invariant-loop-place g l = record {
  writing : IsWriting (g.K.Sink.held l.fn.sink) (g.K.Sink.held l.sink) (g.K.Sink.faults l.fn.sink) (g.K.Sink.faults l.sink) (g.K.Sink.is_steady l.fn.sink) (g.K.Sink.is_steady l.sink)
      (l.fn.writer.gather ++ walk_text 1 l.routes (all_left l.fn.left)) l.writer.gather (walk_text (l.place + 1) (drop l.place l.routes) (all_left l.left));
}
