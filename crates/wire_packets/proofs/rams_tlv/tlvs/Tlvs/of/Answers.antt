use Rattle.std.proofs.Common.{◌∙◌}
use Rattle.std.proofs.lemmas.Result.{IfOk-weaker, IfErr-weaker}
use Rattle.wire_packets.proofs.rams_tlv.Reading.{message_at}
use Rattle.wire_packets.proofs.rams_tlv.tlvs.Tlvs.of.Goals as goal

pub returns-clause-ok : goal.returns-clause-ok
returns-clause-ok c =
    let whole = message_at c.args.message c.args.fci.now c.split_at.result.1.now c.if-fci-lt4.false (c.if-fci-sfmt.false ∙ c.sfmt.ensures) c.split_at.ensures.back in
    IfOk-weaker c.new.result _ _ (λ tlvs h. (h.0, c.if-fci-lt4.false, rw h.1 whole)) c.new.ensures.ok

pub returns-clause-err : goal.returns-clause-err
returns-clause-err c =
    let whole = message_at c.args.message c.args.fci.now c.split_at.result.1.now c.if-fci-lt4.false (c.if-fci-sfmt.false ∙ c.sfmt.ensures) c.split_at.ensures.back in
    IfErr-weaker c.new.result _ _ (λ fault h. whole ∙ h) c.new.ensures.err
