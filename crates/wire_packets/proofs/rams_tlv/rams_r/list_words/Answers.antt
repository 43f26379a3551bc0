use Rattle.std.proofs.Common.{length, ap, arith}
use Rattle.wire_packets.proofs.rams_tlv.WrittenTlvs.{list_tlv}
use Rattle.wire_packets.proofs.rams_tlv.rams_r.list_words.Goals as goal

pub returns-clause-words : goal.returns-clause-words
returns-clause-words c =
    let text = ap length (list_tlv c.args.list.now (λ i. omega (arith, c.type_inv.list i)) c.requires.whole) in
    omega (arith, text)
