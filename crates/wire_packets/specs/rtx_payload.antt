pub mod PlainHead
pub mod Restored
unfoldable pub use Rattle.wire_packets.specs.rtx_payload.PlainHead.{plain_head}
unfoldable pub use Rattle.wire_packets.specs.rtx_payload.Restored.{RestoringGivesTheOriginal}
pub use Rattle.wire_packets.specs.rtx_payload.Restored.{Brings}
