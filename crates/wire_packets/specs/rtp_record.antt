pub mod Places
pub mod Clearing
pub mod Fields
pub use Rattle.wire_packets.specs.rtp_record.Places.{ArePlaces}
unfoldable pub use Rattle.wire_packets.specs.rtp_record.Clearing.{without_padding_bit}
unfoldable pub use Rattle.wire_packets.specs.rtp_record.Fields.{packet_of, behind, unpadded}
