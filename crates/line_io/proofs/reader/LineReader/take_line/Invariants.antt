use Rattle.std.proofs.Common.{◌+◌, ◌-◌, ◌≡◌, ◌≤◌, length}
use Rattle.std.specs.Io.KnownBytes.{Keeps, prepend_known}
use Rattle.line_io.specs.{HasNoFeed}
use Rattle.line_io.proofs.reader.LineReader.take_line.Given as goal

abbrev pub invariant-pieces : goal.invariant-pieces
invariant-pieces g l = record {
  clean : HasNoFeed l.self.kept;
  counted : l.seen ≡ length l.self.kept;
  same : Keeps (prepend_known l.fn.self.kept (g.S.Source.left l.fn.source)) (prepend_known l.self.kept (g.S.Source.left l.source));
  later : g.S.Source.faults l.fn.source ≤ g.S.Source.faults l.source;
  steady : g.S.Source.is_steady l.fn.source → g.S.Source.is_steady l.source;
}

abbrev pub decreases-pieces : goal.decreases-pieces
decreases-pieces g l = 4096 + 1 - l.seen
