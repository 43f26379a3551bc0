use Rattle.std.proofs.Common.{◌-◌, ◌++◌, replicate}
use Rattle.server_hub.specs.declared.HubEvent.TheVariants.{Tick}
use Rattle.trace_loop.specs.journal_book.{event_lines}
use Rattle.trace_loop.proofs.Writing.{IsWriting}
use Rattle.converters.proofs.capture_loop.writer.put_ticks.Given as goal

abbrev pub invariant-loop-done : goal.invariant-loop-done
invariant-loop-done g l =
    IsWriting (g.K.Sink.held l.fn.sink) (g.K.Sink.held l.sink) (g.K.Sink.faults l.fn.sink) (g.K.Sink.faults l.sink) (g.K.Sink.is_steady l.fn.sink) (g.K.Sink.is_steady l.sink)
    (l.fn.gather ++ event_lines (replicate l.count Tick)) l.gather (event_lines (replicate (l.count - l.done) Tick))
