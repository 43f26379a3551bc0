pub mod channel_lock
pub mod Histories
pub mod Books
pub mod Sharing
unfoldable pub use Rattle.channel_book.specs.Histories.{entry, LegalFrom, IsLegal, events_behind, is_of, calls_by, IsInterleaving, IsTwice}
pub use Rattle.channel_book.specs.Books.{Kept, Replays}
unfoldable pub use Rattle.channel_book.specs.Sharing.{Tells}
pub use Rattle.channel_book.specs.Sharing.{StartsWith, HasAnswered, HasSeenMore, AreCalls, HasTaken, HasTakenFront, HasAnsweredAll, HasAnsweredFront}
