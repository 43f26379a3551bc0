pub mod Seen
pub mod Bounds
pub mod JoinTimes
unfoldable pub use Rattle.server_hub.specs.session_core.Seen.{Planned, StandsForFewer}
pub use Rattle.server_hub.specs.session_core.Seen.{IsCore, StandsFor, IsPlanOf}
unfoldable pub use Rattle.server_hub.specs.session_core.Bounds.{IsShort, SendsShort, HasAtMost, IsCountable}
pub use Rattle.server_hub.specs.session_core.Bounds.{AreFew}
unfoldable pub use Rattle.tick_draft.specs.{sends, sends_of_burst, ends_burst, sums_in}
unfoldable pub use Rattle.server_hub.specs.session_core.JoinTimes.{JoinTimesAreKept}
pub use Rattle.server_hub.specs.session_core.JoinTimes.{KeepsItsTime}
unfoldable pub use Rattle.feedback_core.specs.{IsInfo, TellsAlone, most_notes_for, most_notes_in, most_orders_in}
