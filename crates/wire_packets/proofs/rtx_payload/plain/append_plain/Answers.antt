use Rattle.std.proofs.Common.{ℕ, ◌<◌, List, ◌++◌, get_or, take, drop, ap, ◌∙◌, arith, append_assoc}
use Rattle.rams_model.proofs.ListFacts.{on_failure}
use Rattle.wire_packets.specs.rtx_payload.{plain_head}
use Rattle.wire_packets.proofs.rtx_payload.PlainBytes.{plain_again, plain_long}
use Rattle.wire_packets.proofs.rtx_payload.plain.append_plain.Goals as goal

pub returns-in_err-reserve-clause-full : goal.returns-in_err-reserve-clause-full
returns-in_err-reserve-clause-full c =
    let fits : (i : ℕ) → get_or c.args.packet.now i 0 < 256 = λ i. let f = c.type_inv.packet i in omega arith in
    on_failure c.from_residual.result _ (omega (arith, c.in_err-reserve.ensures.full, plain_long c.args.packet.now c.args.rtx c.args.seq fits c.requires.plain))

pub returns-clause-text : goal.returns-clause-text
returns-clause-text c =
    let fits : (i : ℕ) → get_or c.args.packet.now i 0 < 256 = λ i. let f = c.type_inv.packet i in omega arith in
    let old = c.args.text.now.items in
    let payload : List ℕ = drop 12 c.args.packet.now in
    c.put-2.ensures.items
    ∙ ap (λ (text : List ℕ). text ++ c.split_at.result.1.now) (c.put.ensures.items ∙ ap (λ (text : List ℕ). text ++ c.plain_head.result) c.in_ok-reserve.ensures.items)
    ∙ ap (λ (rest : List ℕ). (old ++ c.plain_head.result) ++ rest) c.split_at.ensures.back
    ∙ ap (λ (head : List ℕ). (old ++ head) ++ payload) (c.plain_head.ensures ∙ ap (λ (head : List ℕ). plain_head head c.args.rtx c.args.seq) c.split_at.ensures.front)
    ∙ append_assoc old (plain_head (take 12 c.args.packet.now) c.args.rtx c.args.seq) payload
    ∙ ap (λ (text : List ℕ). old ++ text) (plain_again c.args.packet.now c.args.rtx c.args.seq fits c.requires.plain)
