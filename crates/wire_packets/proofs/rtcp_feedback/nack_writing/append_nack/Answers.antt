use Rattle.std.proofs.Common.{◌≡◌, ℕ, ◌+◌, ◌∙◌, length, ap, arith, length-append}
use Rattle.rams_model.specs.Formats.{nack_words}
use Rattle.wire_packets.proofs.rtcp_feedback.Packing.{nack_text, nack_length}
use Rattle.wire_packets.proofs.rtcp_feedback.nack_writing.append_nack.Goals as goal

pub overflow_cast-words : goal.overflow_cast-words
overflow_cast-words c =
    let bound = nack_length c.args.numbers.now in
    let fci = nack_words c.args.numbers.now in
    let head : length c.header.result ≡ 12 = ap length c.header.ensures in
    let first : length c.extend_from_slice.new.self.items ≡ length c.args.text.now.items + 12 =
    ap length c.in_ok-extend_from_slice.ensures.items ∙ length-append c.args.text.now.items c.header.result ∙ ap (λ (n : ℕ). length c.args.text.now.items + n) head in
    let both : length c.append_words.new.text.items ≡ length c.extend_from_slice.new.self.items + length fci = ap length c.in_default.ensures.text ∙ length-append c.extend_from_slice.new.self.items fci in
    omega arith

pub returns-clause-text : goal.returns-clause-text
returns-clause-text c =
    let fci = nack_words c.args.numbers.now in
    nack_text c.args.text.now.items c.header.result c.extend_from_slice.new.self.items c.append_words.new.text.items fci c.to_be_bytes-length.result c.args.sender c.args.media
    c.len-start.result _ c.header.ensures c.in_ok-extend_from_slice.ensures.items c.in_default.ensures.text (omega arith) (nack_length c.args.numbers.now).1 (omega arith) c.to_be_bytes-length.ensures
