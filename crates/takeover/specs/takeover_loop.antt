pub mod Reading
pub mod Turns
pub mod Taking
pub mod Journals
unfoldable pub use Rattle.takeover.specs.takeover_loop.Reading.{is_fed, has_lines, left_text}
pub use Rattle.takeover.specs.takeover_loop.Reading.{KeepsLines, IsReading, IsOver, IsFresh, IsFollowing, FollowsWithin, HasFollowed, HoldsItsLines}
unfoldable pub use Rattle.takeover.specs.takeover_loop.Turns.{DoesWithin, IsWithin, last_line}
unfoldable pub use Rattle.trace_loop.specs.{EndsAs}
pub use Rattle.takeover.specs.takeover_loop.Turns.{Stopping, Ending}
unfoldable pub use Rattle.takeover.specs.takeover_loop.Taking.{opened_by, end_or, reading_end, given_events, events_left, done_events, turns_end, behind_by, behind_journal, taken_text, taken_datagrams, outcome_of, IsServedEnd, IsTakeoverEnd}
pub use Rattle.takeover.specs.takeover_loop.Taking.{IsTaken, HasEnded, SentBehind, HasStopped}
unfoldable pub use Rattle.takeover.specs.takeover_loop.Journals.{TakeoversMakeOneJournal}
pub use Rattle.takeover.specs.takeover_loop.Journals.{MakesOneJournal}
