pub mod sdp_config
pub mod Heads
pub mod Reads
pub mod Outcomes
pub mod Laws
unfoldable pub use Rattle.converters.specs.description_loop.Heads.{behind_line, behind_head, first_judged, next_judged, by_judging, behind_second, behind_first, behind_none, head_of}
pub use Rattle.converters.specs.description_loop.Heads.{Heading, HeadSays, says, refuses}
unfoldable pub use Rattle.converters.specs.description_loop.Reads.{IsOfNoHead, SaysOf, Says, IsBehind, IsNext, said_fault, said_by, HasRead, TakesPiece}
pub use Rattle.converters.specs.description_loop.Reads.{IsFrontOf}
unfoldable pub use Rattle.converters.specs.description_loop.Outcomes.{heading_text, with_settings, with_sdp, fault_words, fault_line, settings_by, described_by, by_head, settings_outcome, description_outcome, answered, IsReplyEnd, HasWritten}
unfoldable pub use Rattle.converters.specs.description_loop.Laws.{HeadsAreThreeLines, WritesATrace, SettingsAreTraces, DescribesItsHead, SettingsAreTurnedBack}
pub use Rattle.converters.specs.description_loop.Laws.{IsThreeLines, IsTurnedBack}
