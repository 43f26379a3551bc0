pub mod Shown
pub mod Datagram
pub mod Left
unfoldable pub use Rattle.wire_packets.specs.rtcp_frame.Shown.{shown_packet}
unfoldable pub use Rattle.wire_packets.specs.rtcp_frame.Datagram.{packets_in}
unfoldable pub use Rattle.wire_packets.specs.rtcp_frame.Left.{packets_left}
