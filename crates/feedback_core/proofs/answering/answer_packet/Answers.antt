-- A packet that is skipped, or is answered.
use Rattle.std.proofs.Common.{◌≡◌, ◌∙◌, Some, None, sym, ap, arith, length}
use Rattle.std.specs.Prelude.{◌&&◌, not}
use Rattle.rams_model.specs.Service.{is_rams, message_of}
use Rattle.wire_packets.specs.rtcp_frame.{shown_packet}
use Rattle.feedback_core.specs.declared.page.Page.{Page}
use Rattle.feedback_core.specs.{most_of_found, orders_of_found, told_by, shown_message, turn_of, IsTurned}
use Rattle.feedback_core.proofs.Counts.{told_more}
use Rattle.feedback_core.proofs.Turns.{no_turn, one_turn, is_skipped, is_taken, due_turn}
use Rattle.feedback_core.proofs.answering.answer_packet.Goals as goal

pub returns-in_default-clause-answers : goal.returns-in_default-clause-answers
returns-in_default-clause-answers c = λ before history hold visit written.
    let t : IsTurned c.args.desk.now.config.now before history c.args.desk.now.queue.now c.args.desk.now.visitor c.args.desk.now.page = record { visit = visit; written = written } in
    let m = message_of (shown_packet c.args.packet.now) in
    let none : m ≡ None = sym c.in_default.ensures in
    no_turn c.args.desk.now.config.now c.args.desk.now.visitor.client c.args.desk.now.page.is_due m before history c.args.desk.now.queue.now c.args.desk.now.visitor c.args.desk.now.page
    (ap (turn_of c.args.desk.now.page.is_due) none) t

pub returns-then-not-takes-clause-answers : goal.returns-then-not-takes-clause-answers
returns-then-not-takes-clause-answers c = λ before history hold visit written.
    let s = c.args.desk.now.config.now in
    let v = c.args.desk.now.visitor in
    let t : IsTurned s before history c.args.desk.now.queue.now v c.args.desk.now.page = record { visit = visit; written = written } in
    let m = message_of (shown_packet c.args.packet.now) in
    let x = shown_message c.in-Some.message in
    let due = c.args.desk.now.page.is_due in
    let some : m ≡ Some x = sym c.in-Some.ensures in
    no_turn s v.client due m before history c.args.desk.now.queue.now v c.takes.new.self
    (ap (turn_of due) some ∙ is_skipped due x (sym c.takes.ensures.takes ∙ c.if-not-takes.true))
    (due_turn s before history c.args.desk.now.queue.now v c.args.desk.now.page c.takes.new.self (due && not (is_rams x)) c.takes.ensures.due t)

pub answer_message-requires-clause-room : goal.answer_message-requires-clause-room
answer_message-requires-clause-room c =
    let most = ap most_of_found c.in-Some.ensures in
    let len = ap (λ (p : Page). length p.notes.items) c.takes.ensures.due in
    let room = ap (λ (p : Page). p.notes.room) c.takes.ensures.due in
    omega (arith, most, len, room, c.requires.room)

pub returns-clause-few : goal.returns-clause-few
returns-clause-few c =
    let most = ap most_of_found c.in-Some.ensures in
    let len = ap (λ (p : Page). length p.notes.items) c.takes.ensures.due in
    omega (arith, most, len, c.answer_message.ensures.few)

pub returns-clause-told : goal.returns-clause-told
returns-clause-told c =
    let orders = ap orders_of_found c.in-Some.ensures in
    let before = ap told_by c.takes.ensures.due in
    let more = told_more (is_rams (shown_message c.in-Some.message)) c.takes.new.self.info c.answer_message.new.desk.page.info c.answer_message.ensures.info in
    omega (arith, orders, before, more)

pub returns-clause-answers : goal.returns-clause-answers
returns-clause-answers c = λ before history hold visit written.
    let s = c.args.desk.now.config.now in
    let v = c.args.desk.now.visitor in
    let t : IsTurned s before history c.args.desk.now.queue.now v c.args.desk.now.page = record { visit = visit; written = written } in
    let m = message_of (shown_packet c.args.packet.now) in
    let x = shown_message c.in-Some.message in
    let due = c.args.desk.now.page.is_due in
    let some : m ≡ Some x = sym c.in-Some.ensures in
    let taken = due_turn s before history c.args.desk.now.queue.now v c.args.desk.now.page c.takes.new.self (due && not (is_rams x)) c.takes.ensures.due t in
    one_turn s v.client due m x before history c.answer_message.new.desk.queue.now c.answer_message.new.desk.visitor c.answer_message.new.desk.page
    (ap (turn_of due) some ∙ is_taken due x (sym c.takes.ensures.takes ∙ c.if-not-takes.false))
    (c.answer_message.ensures.answers before history hold taken.visit taken.written)
