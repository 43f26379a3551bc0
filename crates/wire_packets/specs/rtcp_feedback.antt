pub mod Shown
pub mod Numbers
pub mod Left
unfoldable pub use Rattle.wire_packets.specs.rtcp_feedback.Shown.{shown_feedback}
unfoldable pub use Rattle.wire_packets.specs.rtcp_feedback.Numbers.{marked_from, numbers_from}
unfoldable pub use Rattle.wire_packets.specs.rtcp_feedback.Left.{numbers_left}
