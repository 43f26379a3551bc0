use Rattle.std.proofs.Common.{length, ap, arith}
use Rattle.std.proofs.lemmas.Grind.{common_steps}
use Rattle.wire_packets.proofs.rams_tlv.WrittenTlvs.{list_tlv}
use Rattle.wire_packets.proofs.rams_tlv.rams_r.put_list.Goals as goal

pub put-requires-3 : goal.put-requires-3
put-requires-3 c =
    let text = ap length (list_tlv c.args.list.now (λ i. omega (arith, c.type_inv.list i)) c.requires.whole) in
    grind (arith, common_steps, text)

pub returns-clause-items : goal.returns-clause-items
returns-clause-items c =
    let text = list_tlv c.args.list.now (λ i. omega (arith, c.type_inv.list i)) c.requires.whole in
    grind (arith, common_steps, text)

pub returns-clause-len : goal.returns-clause-len
returns-clause-len c =
    let text = ap length (list_tlv c.args.list.now (λ i. omega (arith, c.type_inv.list i)) c.requires.whole) in
    grind (arith, common_steps, text)
