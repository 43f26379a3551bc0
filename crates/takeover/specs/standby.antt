pub mod standby_book
pub mod Reading
pub mod Standing
pub mod Following
unfoldable pub use Rattle.takeover.specs.standby.Reading.{is_feed, rest_of, first_part, overlong, looked_at, end_after, end_from, end_of, stage_of, lines_followed, followed, whole_text, NothingBehindCounts}
pub use Rattle.takeover.specs.standby.Reading.{StaysEnded}
unfoldable pub use Rattle.takeover.specs.standby.Standing.{HubServes, StandsSomewhere, count_of, turn_of, is_end, Took, Halting}
pub use Rattle.takeover.specs.standby.Standing.{Serves, Stands, IsSame}
unfoldable pub use Rattle.takeover.specs.standby.Following.{lasting, Halted, HasReadSome, Fails, Takes, Feeds, Refuses, WholeLinesAreFollowed}
pub use Rattle.takeover.specs.standby.Following.{Seen, IsGoing, HasRead, IsTakenOver, IsFollowed}
