use Rattle.std.proofs.Common.{ℕ, ◌*◌, ◌∙◌, take, ap}
use Rattle.std.proofs.lemmas.List.{take_min}
use Rattle.rams_model.specs.Formats.{words32}
use Rattle.wire_packets.proofs.packet_bytes.Fronts.{words32-take}
use Rattle.wire_packets.proofs.rtcp_frame.bye.sources.Goals as goal

pub returns : goal.returns
returns c =
    let body = c.args.p.now.body.now in
    ap (λ (k : ℕ). words32 (take k body)) c.min-len.ensures
    ∙ ap words32 (take_min (4 * c.from.result) body)
    ∙ ap (λ (n : ℕ). words32 (take (4 * n) body)) c.from.ensures
    ∙ words32-take c.args.p.now.count body
