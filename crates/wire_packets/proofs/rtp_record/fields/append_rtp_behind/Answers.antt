use Rattle.std.proofs.Common.{List, ℕ, ◌++◌, refl, ap, ◌∙◌, arith}
use Rattle.std.proofs.lemmas.List.{length-append}
use Rattle.rams_model.proofs.ListFacts.{on_failure}
use Rattle.wire_packets.specs.rtp_record.{packet_of, behind}
use Rattle.wire_packets.proofs.rtp_record.Writing.{spelled_length, put_together, header_behind}
use Rattle.wire_packets.proofs.rtp_record.fields.append_rtp_behind.Goals as goal

pub returns-in_err-reserve-clause-full : goal.returns-in_err-reserve-clause-full
returns-in_err-reserve-clause-full c =
    let f = c.args.f.now in
    let long = spelled_length (behind c.args.front.now (packet_of f)) refl in
    on_failure c.from_residual.result _ (omega (arith, c.in_err-reserve.ensures.full, long, length-append c.args.front.now f.payload.now))

pub returns-clause-text : goal.returns-clause-text
returns-clause-text c =
    let f = c.args.f.now in
    let all = put_together (behind c.args.front.now (packet_of f)) c.args.text.now.items c.fixed_header.result c.args.front.now f.payload.now refl
    (c.fixed_header.ensures.value ∙ header_behind c.args.front.now (packet_of f)) refl in
    c.put-3.ensures.items
    ∙ ap (λ (text : List ℕ). text ++ f.payload.now) (c.put-2.ensures.items
    ∙ ap (λ (text : List ℕ). text ++ c.args.front.now) (c.put_if_any-2.ensures.items
    ∙ ap (λ (text : List ℕ). text ++ f.extension.now) (c.put_if_any.ensures.items
    ∙ ap (λ (text : List ℕ). text ++ f.csrc.now) (c.put.ensures.items
    ∙ ap (λ (text : List ℕ). text ++ c.fixed_header.result) c.in_ok-reserve.ensures.items))))
    ∙ all
