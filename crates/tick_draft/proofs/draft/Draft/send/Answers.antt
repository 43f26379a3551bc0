use Rattle.std.proofs.Common.{◌≡◌, ℕ, ◌+◌, List, [], ◌∷◌, ◌++◌, ap, ◌∙◌, arith}
use Rattle.rams_model.specs.declared.{Note.Note, Order.Order, Order.TheVariants.Rtx}
use Rattle.rams_model.specs.Formats.{wire_size}
use Rattle.tick_draft.specs.{sending_of}
use Rattle.tick_draft.proofs.Stepping.{sent}
use Rattle.tick_draft.proofs.draft.Draft.send.Goals as goal

pub invariant_of-self-2 : goal.invariant_of-self-2
invariant_of-self-2 c =
    let here = c.self.inside in
    let note = c.args.note in
    let client = c.args.client in
    let n = c.args.held.now.n in
    let seq = c.args.seq in
    let packet = c.in_ok-packet.packet in
    let size : wire_size packet ≡ c.len.result + c.from.result = omega (arith, c.len.ensures.value, c.from.ensures) in
    sent here.steps c.send.new.self here.notes.items c.push_reserved.new.self.items here.orders.items c.push_reserved-2.new.self.items note client n seq packet c.sending_of.result c.self.invariant
    (ap (λ (bytes : ℕ). sending_of bytes note) size ∙ c.sending_of.ensures) c.in_ok-send.ensures.sent
    (c.push_reserved.ensures.items ∙ ap (λ (l : List Note). l ++ note ∷ []) c.make_room.ensures.notes)
    (c.push_reserved-2.ensures.items ∙ ap (λ (l : List Order). l ++ Rtx client n seq packet ∷ []) c.make_room.ensures.orders)
