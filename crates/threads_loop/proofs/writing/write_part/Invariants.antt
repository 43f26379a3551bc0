use Rattle.std.proofs.Common.{◌++◌, ◌+◌, drop}
use Rattle.trace_loop.proofs.Writing.{IsWriting}
use Rattle.threads_loop.specs.{part_text}
use Rattle.threads_loop.proofs.writing.write_part.Given as goal

abbrev pub invariant-loop-place : goal.invariant-loop-place
invariant-loop-place g l =
    IsWriting (g.K.Sink.held l.fn.sink) (g.K.Sink.held l.sink) (g.K.Sink.faults l.fn.sink) (g.K.Sink.faults l.sink) (g.K.Sink.is_steady l.fn.sink) (g.K.Sink.is_steady l.sink)
    (l.fn.writer.gather ++ part_text l.config l.part 1 l.entries) l.writer.gather (part_text l.config l.part (l.place + 1) (drop l.place l.entries))
