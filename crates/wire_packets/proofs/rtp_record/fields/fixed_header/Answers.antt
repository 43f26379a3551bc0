use Rattle.std.proofs.Common.{inl, refl, arith}
use Rattle.wire_packets.proofs.rtp_record.fields.fixed_header.Goals as goal

pub returns-clause-lawful : goal.returns-clause-lawful
returns-clause-lawful c = record {
  payload_type = c.requires.kind;
  sequence = omega arith;
  timestamp = omega arith;
  ssrc = omega arith;
  csrc = c.requires.csrc;
  extension = c.requires.extension;
  padding = inl refl;
}
