pub mod Asked
pub mod Kept
pub mod Lows
pub mod Marks
pub mod Seen
pub mod Spans
unfoldable pub use Rattle.channel_cache.specs.access_index.Asked.{roomy, start_of, choice_for}
unfoldable pub use Rattle.channel_cache.specs.access_index.Kept.{shown, since, timed, seen_of, AreTimes, RiseIn, above}
unfoldable pub use Rattle.channel_cache.specs.access_index.Lows.{are_over, lows_of, under, IsLid, AreLids}
unfoldable pub use Rattle.channel_cache.specs.access_index.Marks.{point_of, points_of, refused, choice_of}
pub use Rattle.channel_cache.specs.access_index.Marks.{StandsFor}
unfoldable pub use Rattle.channel_cache.specs.access_index.Seen.{new_index, more_behind, pushed, left_from, leaves_room, age_at, newest, start_unless, start_at, choice_among, choice}
pub use Rattle.channel_cache.specs.access_index.Seen.{AccessPoint}
unfoldable pub use Rattle.channel_cache.specs.access_index.Spans.{IsIn, Reaches, RiseLast, AreAtMost, IsLastOld}
pub use Rattle.channel_cache.specs.access_index.Spans.{Row, Spanned, IsNoted}
