-- What a packet's retransmission brings.
use Rattle.std.proofs.Common.{ℕ, sym, ap, ◌∙◌}
use Rattle.rams_model.specs.Receiver.{again}
use Rattle.receiver_core.proofs.Sharing.{brings_again}
use Rattle.receiver_core.proofs.reading.number_brought.Goals as goal

pub returns : goal.returns
returns c = λ sequence few.
    let p = c.in-Ok.packet in
    ap (λ (n : ℕ). again sequence n c.args.bytes.now) c.sequence.ensures
    ∙ brings_again c.args.tuned.now c.args.bytes.now p c.args.payload_type sequence (sym c.in-Ok.ensures.exact) c.in-Ok.ensures.found.0 c.in-Ok.ensures.found.1
    (sym c.stripped_len.ensures ∙ c.if-stripped_len-bytes.false) c.if-payload_type-tuned.false c.requires (sym c.is_of.ensures ∙ c.if-not-is_of.false) few
