-- The client is received, answered and kept.
use Rattle.std.proofs.Common.{List, [], ap, ◌∙◌, sym, refl, rules}
use Rattle.rams_model.specs.declared.Note.{Note}
use Rattle.rams_model.specs.Service.{answered}
use Rattle.client_table.specs.Clients.{Clients}
use Rattle.channel_parts.specs.declared.Parts.{Parts}
use Rattle.wire_packets.specs.rtcp_frame.{packets_left}
use Rattle.feedback_core.proofs.Counts.{none_asked}
use Rattle.feedback_core.proofs.Serving.{parts_ended, ready_placed, safe_placed, served, unasked}
use Rattle.feedback_core.proofs.Telling.{page_tells}
use Rattle.feedback_core.proofs.feedback.answer_framed.Goals as goal

pub answer_packets-requires-clause-ready : goal.answer_packets-requires-clause-ready
answer_packets-requires-clause-ready c = record {
  ready = ready_placed c.args.parts.now c.receive.new.parts c.requires.stands.0 c.args.client c.requires.stands.1 c.in_ok-visitor.ensures.parts;
  safe = safe_placed c.args.parts.now c.receive.new.parts c.requires.stands.0 c.args.client c.in_ok-visitor.visitor c.requires.stands.1 c.in_ok-visitor.ensures.parts
      c.in_ok-visitor.ensures.visitor;
}

pub returns-clause-stands : goal.returns-clause-stands
returns-clause-stands c = λ events bytes st fe.
    served c.args.parts.now c.receive.new.parts _ events c.args.client bytes (packets_left c.args.packets) c.in_ok-visitor.visitor c.answer_packets.new.desk.visitor
    c.answer_packets.new.desk.queue.now c.in_ok-page.page c.answer_packets.new.desk.page c.finish.result st fe c.in_ok-visitor.ensures.parts c.in_ok-visitor.ensures.visitor
    c.in_ok-page.ensures.notes c.in_ok-page.ensures.info c.in_ok-page.ensures.due c.answer_packets.ensures.answers c.answer_packets.ensures.same.one
    c.answer_packets.ensures.ready.safe.placed
    (parts_ended c.receive.new.parts _ c.answer_packets.new.desk.visitor.budget _ c.answer_packets.new.desk.queue.now c.keep.new.table _ refl (search (rules, sym c.answer_packets.ensures.same_queue)) c.keep.ensures) c.finish.ensures

pub returns-clause-settings : goal.returns-clause-settings
returns-clause-settings c = ap (λ (p : Parts). p.config) c.in_ok-visitor.ensures.parts

pub returns-clause-told : goal.returns-clause-told
returns-clause-told c = page_tells c.finish.result _ c.args.client _ c.finish.ensures

pub returns-then-most-eq0-clause-stands : goal.returns-then-most-eq0-clause-stands
returns-then-most-eq0-clause-stands c = λ events bytes st fe.
    unasked c.args.parts.now (record c.args.parts.now { table = c.wake.new.self }) events c.args.client bytes (packets_left c.args.packets) c.new-then-most-eq0-2.result st fe
    (none_asked (packets_left c.args.packets) (sym c.most_of_packets-most.ensures.notes ∙ c.if-most-eq0.true)) (ap (λ (t : Clients). record c.args.parts.now { table = t }) c.wake.ensures)
    (c.new-then-most-eq0-2.ensures ∙ ap (λ (ns : List Note). answered ns c.new-then-most-eq0.result.items) c.new.ensures.items ∙ ap (answered []) c.new-then-most-eq0.ensures.items)
