-- The bytes of a datagram as code keeps it.
use Rattle.std.specs.Prelude.{ℕ, List, Option, Some, None}
use Rattle.rams_model.specs.Formats.{packet_at}
use Rattle.rams_model.specs.Service.{sent_again}
use Rattle.meet_loop.specs.declared.world_laws.sent_bytes.Again.{Again}

-- the bytes, or the retransmission of the packet that they are
abbrev pub spelled : List ℕ → Option Again → List ℕ
spelled bytes None = bytes
spelled bytes (Some again) = sent_again again.payload_type again.sequence (packet_at bytes)
