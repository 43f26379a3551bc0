use Rattle.std.proofs.Common.{◌≤◌, List}
use Rattle.std.specs.Io.KnownBytes.{prepend_known}
use Rattle.server_hub.specs.Served.{Served}
use Rattle.trace_loop.specs.{IfBothTold}
use Rattle.converters.specs.capture_loop.{Numbered, new_clock}
use Rattle.converters.proofs.capture_loop.Running.{IsRunning}
use Rattle.converters.proofs.capture_loop.capture.write_records.Given as goal

abbrev pub invariant-loop-count : goal.invariant-loop-count
invariant-loop-count g l = record {
  running : (channels : List Served) → Numbered l.opened.ids.items channels
      → IfBothTold (prepend_known l.fn.intake (g.S.Source.left l.fn.source)) (prepend_known l.intake (g.S.Source.left l.source))
      (IsRunning l.port channels (new_clock l.opened.hub.tick) l.endian (g.K.Sink.held l.fn.sink) (g.K.Sink.faults l.fn.sink) (g.K.Sink.is_steady l.fn.sink) l.fn.gather
      (g.K.Sink.held l.sink) (g.K.Sink.faults l.sink) (g.K.Sink.is_steady l.sink) l.gather l.progress.due l.progress.room l.count);
  read_later : g.S.Source.faults l.fn.source ≤ g.S.Source.faults l.source;
  write_later : g.K.Sink.faults l.fn.sink ≤ g.K.Sink.faults l.sink;
  calm : g.S.Source.is_steady l.fn.source → g.S.Source.is_steady l.source;
}
