pub mod Journals
unfoldable pub use Rattle.takeover.specs.standby.standby_book.Journals.{followed_text, JournalsAreTakenOver}
pub use Rattle.takeover.specs.standby.standby_book.Journals.{IsTakenOver}
