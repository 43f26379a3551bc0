use Rattle.std.proofs.Common.{◌≤◌}
use Rattle.std.specs.Io.KnownBytes.{prepend_known}
use Rattle.trace_loop.specs.{IfBothTold}
use Rattle.trace_loop.specs.head_loop.{HasOpenedSome}
use Rattle.trace_loop.proofs.head_loop.HeadLines.{IsReading}
use Rattle.trace_loop.proofs.head_loop.head.read_head.Given as goal

abbrev pub invariant-loop-number : goal.invariant-loop-number
invariant-loop-number g l = record {
  reading : IfBothTold (prepend_known l.fn.reader.kept (g.S.Source.left l.fn.source)) (prepend_known l.reader.kept (g.S.Source.left l.source)) (IsReading l.opening.hub l.opening.ids.items l.opening.state l.opening.text.items l.number);
  opened : HasOpenedSome l.opening.hub l.opening.ids.items l.opening.state;
  read_later : g.S.Source.faults l.fn.source ≤ g.S.Source.faults l.source;
  steady : g.S.Source.is_steady l.fn.source → g.S.Source.is_steady l.source;
}
