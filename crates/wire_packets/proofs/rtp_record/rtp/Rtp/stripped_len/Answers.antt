use Rattle.std.proofs.Common.{length, sym, ap, ◌∙◌}
use Rattle.rams_model.specs.Formats.{Packet, stripped}
use Rattle.wire_packets.proofs.rtp_record.Stripping.{stripped_length}
use Rattle.wire_packets.proofs.rtp_record.rtp.Rtp.stripped_len.Goals as goal

pub returns : goal.returns
returns c =
    sym (stripped_length c.self.inside.bytes.now c.self.inside.extension_at c.self.inside.payload_at c.self.inside.padding_at c.self.invariant)
    ∙ ap (λ (p : Packet). length (stripped p)) c.self.view_is
