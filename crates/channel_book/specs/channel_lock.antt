pub mod Counts
pub mod Turns
pub mod Steps
pub mod Passes
unfoldable pub use Rattle.channel_book.specs.channel_lock.Counts.{total, times, numbers}
unfoldable pub use Rattle.channel_book.specs.channel_lock.Passes.{fresh, known, NotAmong, IsSamePass}
pub use Rattle.channel_book.specs.channel_lock.Passes.{Known, Guarded, HasMet, IsOfPass, IsLock}
