use Rattle.std.proofs.Common.{◌≡◌, ℕ, ◌+◌, ◌≤◌, List, Some, false, length}
use Rattle.takeover.specs.standby.{HasReadSome}
use Rattle.takeover.specs.standby.standby_book.{followed_text}
use Rattle.takeover.specs.takeover_loop.{FollowsWithin, IsFollowing}
use Rattle.takeover.proofs.takeover_loop.following.follow.Given as goal

abbrev pub invariant-loop : goal.invariant-loop
invariant-loop g l = record {
  unended : l.reading.standby.ended ≡ false;
  read : HasReadSome l.reading.standby;
  room : length l.room ≡ 8192;
  following : IsFollowing (g.S.Source.left l.fn.source) (g.K.Sink.held l.fn.sink) (g.S.Source.left l.source) (g.K.Sink.held l.sink) l.reading.standby l.reading.journal l.reading.line.items l.reading.begun;
  read_later : g.S.Source.faults l.fn.source ≤ g.S.Source.faults l.source;
  write_later : g.K.Sink.faults l.fn.sink ≤ g.K.Sink.faults l.sink;
  steady : (all : List ℕ) (more : ℕ) → g.S.Source.left l.fn.source ≡ Some all → g.S.Source.is_steady l.fn.source → g.K.Sink.is_steady l.fn.sink (length (followed_text all) + more)
      → FollowsWithin (g.S.Source.left l.fn.source) (g.K.Sink.held l.fn.sink) all more (g.S.Source.left l.source) (g.K.Sink.is_steady l.sink) (g.K.Sink.held l.sink) l.reading.standby l.reading.journal l.reading.line.items l.reading.begun
      × g.S.Source.is_steady l.source;
}
