pub mod reorder_window
pub mod packet_ring
pub mod access_index
pub mod Arrivals
pub mod Whole
pub mod Stocked
pub mod Waiting
pub mod Brought
pub mod Step
pub mod Seen
pub mod Laws
unfoldable pub use Rattle.channel_cache.specs.Arrivals.{arrival_of, note_heard, arrivals_heard, live_note_of, arrivals_after}
unfoldable pub use Rattle.channel_cache.specs.Whole.{AreWhole}
pub use Rattle.channel_cache.specs.Whole.{IsBare, IsWhole}
unfoldable pub use Rattle.channel_cache.specs.Waiting.{new_intake, packets_of, AreItems, total_of, UnlessKept}
pub use Rattle.channel_cache.specs.Waiting.{IsItem, IsIntake, IsSettled, Grows, Holds}
unfoldable pub use Rattle.channel_cache.specs.Brought.{due, Waits, UnlessTaken}
pub use Rattle.channel_cache.specs.Brought.{Brings}
unfoldable pub use Rattle.channel_cache.specs.Step.{IsTop, kept_other}
pub use Rattle.channel_cache.specs.Step.{AreInStep, Stand}
unfoldable pub use Rattle.channel_cache.specs.Seen.{new_cache, ring_of, DiffersInKept}
pub use Rattle.channel_cache.specs.Seen.{StandsFor, StandsForFewer, IsCache}
unfoldable pub use Rattle.channel_cache.specs.Laws.{NotesAreOfTheBook}
pub use Rattle.channel_cache.specs.Laws.{IsNotedSo}
