-- Of another media source, or read, or not read.
use Rattle.std.proofs.Common.{arith}
use Rattle.rams_model.specs.Formats.{nack_numbers}
use Rattle.rams_model.specs.Service.{named}
use Rattle.wire_packets.specs.rtcp_feedback.{numbers_left}
use Rattle.feedback_core.proofs.Nacks.{read_few, nack_foreign, nack_read, nack_unread}
use Rattle.feedback_core.proofs.nack.answer_nack.Goals as goal

pub returns-then-nack-channel-clause-answers : goal.returns-then-nack-channel-clause-answers
returns-then-nack-channel-clause-answers c = λ before history heard w.
    nack_foreign c.args.desk.now.config.now before history c.args.desk.now.queue.now c.args.desk.now.visitor c.args.nack.now.media (named (nack_numbers c.args.nack.now.fci.now)) c.channel.result.now c.args.desk.now.page.notes.items
    c.push.new.self.items c.channel.ensures.value c.if-nack-channel.true c.push.ensures.items w

pub answer_numbers-requires-clause-room : goal.answer_numbers-requires-clause-room
answer_numbers-requires-clause-room c =
    let few = read_few c.args.nack.now.fci.now (numbers_left c.in-Ok.numbers) c.in-Ok.ensures.ok in omega (arith, few, c.requires.room)

pub returns-in-Ok-clause-few : goal.returns-in-Ok-clause-few
returns-in-Ok-clause-few c =
    let few = read_few c.args.nack.now.fci.now (numbers_left c.in-Ok.numbers) c.in-Ok.ensures.ok in omega (arith, few, c.answer_numbers.ensures.few)

pub returns-in-Ok-clause-answers : goal.returns-in-Ok-clause-answers
returns-in-Ok-clause-answers c = λ before history heard w.
    nack_read c.args.desk.now.config.now c.args.desk.now.cache.now.held before history c.answer_numbers.new.desk.queue.now c.args.desk.now.visitor.client c.answer_numbers.new.desk.visitor c.args.nack.now.media
    c.args.nack.now.fci.now (numbers_left c.in-Ok.numbers) c.channel.result.now c.args.desk.now.page.notes.items c.answer_numbers.new.desk.page.notes.items c.channel.ensures.value c.if-nack-channel.false heard.held_is
    c.in-Ok.ensures.ok (c.answer_numbers.ensures.answers before history heard w)

pub returns-in-Err-clause-answers : goal.returns-in-Err-clause-answers
returns-in-Err-clause-answers c = λ before history heard w.
    nack_unread c.args.desk.now.config.now c.args.desk.now.cache.now.held before history c.args.desk.now.queue.now c.args.desk.now.visitor c.args.nack.now.media c.args.nack.now.fci.now c.in-Err.field-0
    c.channel.result.now c.args.desk.now.page.notes.items c.channel.ensures.value c.if-nack-channel.false heard.held_is c.in-Err.ensures.err w
