use Rattle.std.proofs.Common.{subst}
use Rattle.rams_model.specs.Formats.{Packet, IsPacket}
use Rattle.wire_packets.proofs.rtp_record.rtp.Rtp.fields.Goals as goal

pub returns-clause-lawful : goal.returns-clause-lawful
returns-clause-lawful c = subst (λ (p : Packet). IsPacket p) c.self.view_is c.self.invariant.is_packet
