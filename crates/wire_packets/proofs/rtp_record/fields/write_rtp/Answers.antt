use Rattle.std.proofs.Common.{List, ℕ, ◌++◌, ap, ◌∙◌}
use Rattle.rams_model.specs.Formats.{spelling, packet_at}
use Rattle.rams_model.proofs.RtpPackets.{read_so}
use Rattle.wire_packets.specs.rtp_record.{packet_of}
use Rattle.wire_packets.proofs.rtp_record.fields.write_rtp.Goals as goal

pub returns-clause-read : goal.returns-clause-read
returns-clause-read c =
    ap (λ (text : List ℕ). packet_at text) (c.in_ok-append_rtp.ensures.text ∙ ap (λ (text : List ℕ). text ++ spelling (packet_of c.args.f.now)) c.new-text.ensures.items)
    ∙ read_so (packet_of c.args.f.now) c.in_ok-append_rtp.ensures.lawful
