use Rattle.std.proofs.Common.{ℕ, ◌<◌, List, get_or, ap, ◌∙◌, arith}
use Rattle.rams_model.specs.Formats.{packet_at}
use Rattle.rams_model.proofs.RtpPackets.{read_so}
use Rattle.wire_packets.proofs.rtp_record.Reading.{found_from}
use Rattle.wire_packets.proofs.rtp_record.rtp.Rtp.read.Goals as goal

pub returns-clause-found : goal.returns-clause-found
returns-clause-found c =
    let fits : (i : ℕ) → get_or c.args.bytes.now i 0 < 256 = λ i. let f = c.type_inv.bytes i in omega arith in
    found_from c.args.bytes.now c.cut.result fits c.cut.ensures

pub returns-clause-only : goal.returns-clause-only
returns-clause-only c p is text = c.cut.ensures ∙ ap (λ (bytes : List ℕ). packet_at bytes) text ∙ read_so p is
