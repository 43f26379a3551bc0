pub mod Parts
pub mod Judging
pub mod Spelling
unfoldable pub use Rattle.trace_text.specs.Parts.{names_words, places_words, amounts_words, bounds_words}
unfoldable pub use Rattle.trace_text.specs.Judging.{told, judged_as, IsOther, IsSettled, by_rules, settled, with_settled, with_ranged}
pub use Rattle.trace_text.specs.Judging.{IsJudged}
unfoldable pub use Rattle.trace_text.specs.Spelling.{SpelledLinesAreRead, LinesAreSpelledAsRead, TheWordsTell}
