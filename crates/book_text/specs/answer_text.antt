pub mod Entries
unfoldable pub use Rattle.book_text.specs.answer_text.Entries.{entry_text}
