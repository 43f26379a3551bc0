pub mod Visitors
pub mod Visits
pub mod Ready
pub mod Saying
pub mod Counting
pub mod Framing
pub mod Pads
pub mod Pages
pub mod Places
pub mod Telling
pub mod Desks
unfoldable pub use Rattle.feedback_core.specs.Visitors.{open_in, open_of, entry_under, begun_burst, is_sent_later, woken}
unfoldable pub use Rattle.feedback_core.specs.Visits.{IsClient, IsAny, Holds, ServesAt}
pub use Rattle.feedback_core.specs.Visits.{IsUnknown, IsKnown, IsAsBefore, IsVisit, IsHeard, HasBurst}
unfoldable pub use Rattle.feedback_core.specs.Ready.{rate_for}
pub use Rattle.feedback_core.specs.Ready.{IsHeldRun, IsReady, IsSafeBurst, IsSafe, AreOfOne, IsAnswered}
unfoldable pub use Rattle.feedback_core.specs.Saying.{only, end_notes, said_notes, said_orders}
pub use Rattle.feedback_core.specs.Saying.{IsSaid, AreNoted}
unfoldable pub use Rattle.feedback_core.specs.Counting.{most_of_numbers, most_of_nack, most_of_message, orders_of_message, most_of_found, orders_of_found, most_of, orders_of, most_notes, most_orders, most_notes_of, most_orders_of, most_notes_in, most_orders_in, most_notes_for}
pub use Rattle.feedback_core.specs.Pads.{Written}
unfoldable pub use Rattle.feedback_core.specs.Framing.{shown_message, answered_of, turn_of, due_after}
unfoldable pub use Rattle.feedback_core.specs.Pages.{or_info, last_of, info_for, told_by, IsFresh}
pub use Rattle.feedback_core.specs.Pages.{IsPage, IsTurned}
unfoldable pub use Rattle.feedback_core.specs.Places.{is_full_table, has_place, with_place, with_kept}
unfoldable pub use Rattle.feedback_core.specs.Telling.{IsInfo, TellsAlone}
pub use Rattle.feedback_core.specs.Desks.{IsSameDesk, IsReadyDesk}
unfoldable pub use Rattle.feedback_core.specs.Desks.{HoldsOn, IsHeardOn, HasBurstOn, Serves}
