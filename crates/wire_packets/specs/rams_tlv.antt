pub mod Lengths
pub mod Tlvs
pub mod Shown
unfoldable pub use Rattle.wire_packets.specs.rams_tlv.Lengths.{lengths, sfmt}
unfoldable pub use Rattle.wire_packets.specs.rams_tlv.Tlvs.{tlvs_of, value_in}
unfoldable pub use Rattle.wire_packets.specs.rams_tlv.Shown.{shown_ssrcs, shown_request, IsWritable, HasSpelling}
