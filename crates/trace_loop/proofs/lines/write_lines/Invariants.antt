use Rattle.std.proofs.Common.{◌≤◌}
use Rattle.std.specs.Io.KnownBytes.{prepend_known}
use Rattle.trace_loop.specs.{IfBothTold, StandsSomewhere}
use Rattle.trace_loop.proofs.Running.{IsRunning}
use Rattle.trace_loop.proofs.lines.write_lines.Given as goal

abbrev pub invariant-loop-number : goal.invariant-loop-number
invariant-loop-number g l =
    IfBothTold (g.S.Source.left l.fn.source) (prepend_known l.reader.kept (g.S.Source.left l.source))
    (IsRunning g.V.TraceServer.serving (g.K.Sink.held l.fn.sink) (g.K.Sink.held l.sink) (g.K.Sink.faults l.fn.sink) (g.K.Sink.faults l.sink) (g.K.Sink.is_steady l.fn.sink) (g.K.Sink.is_steady l.sink)
    l.fn.writer.gather l.writer.gather (g.V.TraceServer.stands l.server) l.number)
    × (g.S.Source.faults l.fn.source ≤ g.S.Source.faults l.source)
    × (g.K.Sink.faults l.fn.sink ≤ g.K.Sink.faults l.sink)
    × (g.S.Source.is_steady l.fn.source → g.S.Source.is_steady l.source)
    × StandsSomewhere (g.V.TraceServer.stands l.server)
