-- The packets that fields are.
use Rattle.std.specs.Prelude.{ℕ, List, [], ◌++◌}
use Rattle.rams_model.specs.Formats.{Packet}
use Rattle.wire_packets.specs.declared.rtp_record.fields.RtpFields.{RtpFields}

-- the packet with these fields, without padding
abbrev pub packet_of : RtpFields → Packet
packet_of f = record {
  marker = f.marker;
  payload_type = f.payload_type;
  sequence = f.sequence;
  timestamp = f.timestamp;
  ssrc = f.ssrc;
  csrc = f.csrc.now;
  extension = f.extension.now;
  payload = f.payload.now;
  padding = [];
}

-- the packet with these bytes in front of its payload
abbrev pub behind : List ℕ → Packet → Packet
behind front p = record p { payload = front ++ p.payload }

-- the packet without its padding
abbrev pub unpadded : Packet → Packet
unpadded p = record p { padding = [] }
