-- One packet more, and in the end all of them.
use Rattle.std.proofs.Common.{◌≡◌, ◌+◌, ◌∙◌, ap, arith}
use Rattle.std.specs.Prelude.{max}
use Rattle.wire_packets.specs.rtcp_frame.{packets_left, shown_packet}
use Rattle.feedback_core.specs.{most_of, most_notes, orders_of, most_orders, answered_of}
use Rattle.feedback_core.proofs.Desks.{same_still, step_before}
use Rattle.feedback_core.proofs.Turns.{after_packet, at_last}
use Rattle.feedback_core.proofs.answering.answer_packets.Goals as goal

pub loop-packet-preserved : goal.loop-packet-preserved
loop-packet-preserved c =
    let s = c.args.desk.now.config.now in
    let i = c.loop-packet.invariant in
    let p = shown_packet c.in-Some.packet in
    let step : most_notes (packets_left c.loop-packet.packet-iterator) ≡ most_of p + most_notes (packets_left c.next.new.self) = ap most_notes c.in-Some.ensures.steps in
    let orders : most_orders (packets_left c.loop-packet.packet-iterator) ≡ max (orders_of p) (most_orders (packets_left c.next.new.self)) = ap most_orders c.in-Some.ensures.steps in
    record {
      can_next = tt;
      is_finite = tt;
      same_queue = c.answer_packet.ensures.same_queue ∙ i.same_queue;
      same = same_still c.args.desk.now c.loop-packet.desk c.answer_packet.new.desk i.same c.answer_packet.ensures.same;
      ready = c.answer_packet.ensures.ready;
      fresh = c.answer_packet.ensures.fresh;
      room = omega (arith, step, i.room, c.answer_packet.ensures.few, c.answer_packet.ensures.room);
      few = omega (arith, step, i.few, c.answer_packet.ensures.few);
      told = omega (arith, orders, i.told, c.answer_packet.ensures.told);
      answers = λ before history hold visit written.
          let a = i.answers before history hold visit written in
          after_packet s c.args.desk.now.cache.now.held c.args.desk.now.visitor.client c.loop-packet.desk.visitor.client before history
          (answered_of c.args.desk.now.page.is_due (packets_left c.args.packets)) c.loop-packet.desk.page.is_due c.answer_packet.new.desk.page.is_due
          (packets_left c.loop-packet.packet-iterator) (packets_left c.next.new.self) p c.loop-packet.desk.queue.now c.answer_packet.new.desk.queue.now c.loop-packet.desk.visitor
          c.answer_packet.new.desk.visitor c.loop-packet.desk.page c.answer_packet.new.desk.page a i.same.one.client c.in-Some.ensures.steps c.answer_packet.ensures.due
          (step_before c.args.desk.now c.loop-packet.desk c.answer_packet.new.desk _ i.same c.answer_packet.ensures.answers before a.middle a.held_is a.turned.visit a.turned.written);
    }

pub returns-clause-answers : goal.returns-clause-answers
returns-clause-answers c = λ before history hold visit written.
    let s = c.args.desk.now.config.now in
    let a = c.loop-packet.invariant.answers before history hold visit written in
    at_last s c.args.desk.now.cache.now.held c.args.desk.now.visitor.client before history (answered_of c.args.desk.now.page.is_due (packets_left c.args.packets)) c.loop-packet.desk.page.is_due
    (packets_left c.loop-packet.packet-iterator) c.loop-packet.desk.queue.now c.loop-packet.desk.visitor c.loop-packet.desk.page a c.in-None.ensures.steps.0
