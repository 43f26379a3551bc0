pub mod Packets
pub mod Seen
pub mod Starts
unfoldable pub use Rattle.channel_cache.specs.reorder_window.Packets.{items_of, start_of, note_of, AwaitedAreThose, NotesAreThose, StartsGrowAlike, NoneIsBelowTheFirst, ReleasedAreThose, EndedAreThose}
unfoldable pub use Rattle.channel_cache.specs.reorder_window.Seen.{seen_of, seen_code, new_window, begun, came_of, next_missing, keeping, arrived, is_free, free_of, first_free, without, after_release, RisesIn}
pub use Rattle.channel_cache.specs.reorder_window.Seen.{IsAwaited, GoesBy, IsWindow, StandsFor, WentBy}
unfoldable pub use Rattle.channel_cache.specs.reorder_window.Starts.{has_number, with_item, last_number, is_missing, awaited, came, start_after, released}
pub use Rattle.channel_cache.specs.reorder_window.Starts.{Start}
