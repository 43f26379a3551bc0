use Rattle.std.proofs.Common.{ℕ, get_or, arith, ◌≡◌, ◌<◌, ◌+◌, ◌*◌}
use Rattle.rams_model.specs.Formats.{csrc_size}
use Rattle.wire_packets.proofs.rtp_record.Reading.{are_places}
use Rattle.wire_packets.proofs.rtp_record.rtp.Rtp.cut.Goals as goal

pub invariant_of-result : goal.invariant_of-result
invariant_of-result c =
    let fits : (i : ℕ) → get_or c.args.bytes.now i 0 < 256 = λ i. let f = c.type_inv.bytes i in omega arith in
    let start : 12 + 4 * c.from.result ≡ 12 + csrc_size c.args.bytes.now = omega (arith, c.from.ensures) in
    are_places c.args.bytes.now (12 + 4 * c.from.result) c.in_ok-payload_at.payload_at c.in_ok-padding_at.padding_at
    fits (omega arith) (omega arith) start (omega arith) c.in_ok-payload_at.ensures c.in_ok-padding_at.ensures
