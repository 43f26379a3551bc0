pub mod Feeds
pub mod Lines
pub mod Passes
pub mod Lending
unfoldable pub use Rattle.line_io.specs.Feeds.{HasNoFeed}
pub use Rattle.line_io.specs.Feeds.{IsCutAt, IsGrown, AreRanges}
unfoldable pub use Rattle.line_io.specs.Lines.{IsNextOf, TakesNext, IsShort}
pub use Rattle.line_io.specs.Lines.{Reading, IsCutOff}
