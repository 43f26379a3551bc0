use Rattle.std.proofs.Common.{◌≡◌, ℕ, List, ◌++◌, length, set, take, sym, ap, ◌∙◌, arith}
use Rattle.std.proofs.lemmas.List.{length-take}
use Rattle.rams_model.specs.Formats.{Packet, stripped}
use Rattle.rams_model.proofs.ListFacts.{on_failure}
use Rattle.wire_packets.proofs.rtp_record.Stripping.{stripped_at, stripped_length, written_behind}
use Rattle.wire_packets.proofs.rtp_record.rtp.Rtp.append_stripped.Goals as goal

pub returns-in_err-extend_from_slice-clause-full : goal.returns-in_err-extend_from_slice-clause-full
returns-in_err-extend_from_slice-clause-full c =
    let i = c.self.inside in
    let long : length (stripped c.args.self.now) ≡ i.padding_at =
    ap (λ (p : Packet). length (stripped p)) (sym c.self.view_is) ∙ stripped_length i.bytes.now i.extension_at i.payload_at i.padding_at c.self.invariant in
    on_failure c.from_residual.result _ (omega (arith, c.in_err-extend_from_slice.ensures.full, long, length-take i.padding_at i.bytes.now))

pub returns-clause-text : goal.returns-clause-text
returns-clause-text c =
    let i = c.self.inside in
    let old = c.args.text.now.items in
    let b = c.clear_padding_bit.result in
    ap (λ (text : List ℕ). set text c.len-start.result b) c.in_ok-extend_from_slice.ensures.items
    ∙ written_behind old (take i.padding_at i.bytes.now) c.len-start.result b (omega (arith, c.len-start.ensures))
    ∙ ap (λ (b : ℕ). old ++ set (take i.padding_at i.bytes.now) 0 b) c.clear_padding_bit.ensures
    ∙ ap (λ (text : List ℕ). old ++ text) (sym (stripped_at i.bytes.now i.extension_at i.payload_at i.padding_at c.self.invariant))
    ∙ ap (λ (p : Packet). old ++ stripped p) c.self.view_is
