use Rattle.std.proofs.Common.{◌≤◌}
use Rattle.std.specs.Io.KnownBytes.{prepend_known}
use Rattle.trace_loop.specs.{IfBothTold}
use Rattle.pool.specs.pool_loop.{HasDealtSome}
use Rattle.pool.proofs.pool_loop.LineByLine.{IsReading}
use Rattle.pool.proofs.pool_loop.reading.read_trace.Given as goal

abbrev pub invariant-loop-number : goal.invariant-loop-number
invariant-loop-number g l = record {
  reading : IfBothTold (g.S.Source.left l.fn.source) (prepend_known l.reader.kept (g.S.Source.left l.source)) (IsReading l.dealt l.number);
  dealt : HasDealtSome l.dealt;
  read_later : g.S.Source.faults l.fn.source ≤ g.S.Source.faults l.source;
  steady : g.S.Source.is_steady l.fn.source → g.S.Source.is_steady l.source;
}
