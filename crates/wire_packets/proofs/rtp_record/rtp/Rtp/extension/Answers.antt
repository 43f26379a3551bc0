use Rattle.std.proofs.Common.{ap, ◌∙◌}
use Rattle.rams_model.specs.Formats.{Packet}
use Rattle.wire_packets.proofs.rtp_record.Reading.{extension_between}
use Rattle.wire_packets.proofs.rtp_record.rtp.Rtp.extension.Goals as goal

pub returns : goal.returns
returns c =
    extension_between c.self.inside.bytes.now c.self.inside.extension_at c.self.inside.payload_at c.self.inside.padding_at c.self.invariant
    ∙ ap (λ (p : Packet). p.extension) c.self.view_is
