use Rattle.std.proofs.Common.{length, ◌-◌, ◌+◌, ◌≤◌, ℕ, take}
use Rattle.std.specs.Io.KnownBytes.{Appends}
use Rattle.line_io.proofs.gather.put_all.Given as goal

abbrev pub invariant-pieces : goal.invariant-pieces
invariant-pieces g l = record {
  within : l.at ≤ length l.text;
  sent : Appends (g.K.Sink.held l.fn.sink) (g.K.Sink.held l.sink) (take l.at l.text);
  later : g.K.Sink.faults l.fn.sink ≤ g.K.Sink.faults l.sink;
  steady : (room : ℕ) → g.K.Sink.is_steady l.fn.sink (length l.text + room) → g.K.Sink.is_steady l.sink (length l.text - l.at + room);
}

abbrev pub decreases-pieces : goal.decreases-pieces
decreases-pieces g l = length l.text - l.at
