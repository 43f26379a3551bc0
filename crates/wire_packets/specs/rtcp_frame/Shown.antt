-- A packet as code has it.
use Rattle.rams_model.specs.Formats.{Framed}
use Rattle.wire_packets.specs.declared.rtcp_frame.packet.Packet.{Packet}

-- a packet without where it lies in memory
abbrev pub shown_packet : Packet → Framed
shown_packet p = record { kind = p.kind; count = p.count; body = p.body.now }
