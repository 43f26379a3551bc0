use Rattle.std.proofs.Common.{ℕ, List, ◌++◌, ◌∷◌, [], sym, ap, ◌∙◌, append_assoc}
use Rattle.std.specs.Int.{w64}
use Rattle.rams_model.specs.Formats.{optional_tlv}
use Rattle.wire_packets.proofs.rams_tlv.tlv_writing.put_long.Goals as goal

pub returns-in-Some-clause-items : goal.returns-in-Some-clause-items
returns-in-Some-clause-items c =
    let old = c.args.text.now.items in
    c.put-in-Some.ensures.items
    ∙ ap (λ (l : List ℕ). l ++ c.to_be_bytes.result) c.put.ensures.items
    ∙ append_assoc old (c.args.kind ∷ 0 ∷ 0 ∷ 8 ∷ []) c.to_be_bytes.result
    ∙ ap (λ (l : List ℕ). old ++ (c.args.kind ∷ 0 ∷ 0 ∷ 8 ∷ l)) c.to_be_bytes.ensures
    ∙ ap (λ v. old ++ optional_tlv c.args.kind w64 v) (sym c.in-Some.is)
