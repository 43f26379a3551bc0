use Rattle.std.proofs.Common.{◌≡◌, ℕ, ◌+◌, ◌-◌, ◌≤◌, List, ◌++◌, Option, false, length, take}
use Rattle.takeover.specs.standby.{HasReadSome}
use Rattle.takeover.specs.takeover_loop.{IsReading, left_text}
use Rattle.takeover.proofs.takeover_loop.following.take_piece.Given as goal

abbrev pub invariant-parts : goal.invariant-parts
invariant-parts g l = record {
  within : l.at ≤ length l.piece;
  unended : l.reading.standby.ended ≡ false;
  read : HasReadSome l.reading.standby;
  later : g.K.Sink.faults l.fn.sink ≤ g.K.Sink.faults l.sink;
  reading : (bytes : List ℕ) (held : Option (List ℕ))
      → IsReading held (g.K.Sink.held l.fn.sink) l.fn.reading.standby l.fn.reading.journal l.fn.reading.line.items l.fn.reading.begun bytes
      → IsReading held (g.K.Sink.held l.sink) l.reading.standby l.reading.journal l.reading.line.items l.reading.begun (bytes ++ take l.at l.piece);
  steady : (bytes : List ℕ) (held : Option (List ℕ)) (room : ℕ)
      → IsReading held (g.K.Sink.held l.fn.sink) l.fn.reading.standby l.fn.reading.journal l.fn.reading.line.items l.fn.reading.begun bytes
      → g.K.Sink.is_steady l.fn.sink (length l.fn.reading.journal + left_text (bytes ++ l.piece) bytes + room)
      → g.K.Sink.is_steady l.sink (length l.reading.journal + left_text (bytes ++ l.piece) (bytes ++ take l.at l.piece) + room);
}

abbrev pub decreases-parts : goal.decreases-parts
decreases-parts g l = length l.piece - l.at
