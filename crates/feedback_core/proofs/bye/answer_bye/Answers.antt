-- Another's BYE, or the client leaves, with or without an open burst.
use Rattle.std.proofs.Common.{◌∙◌, None, refl, sym}
use Rattle.rams_model.specs.declared.Note.TheVariants.{Bye, ByeIdle}
use Rattle.rams_model.specs.Service.{after_bye}
use Rattle.wire_packets.specs.rtcp_frame.{shown_packet}
use Rattle.feedback_core.specs.declared.visitor.Visitor.{Visitor}
use Rattle.feedback_core.specs.{only}
use Rattle.feedback_core.proofs.Sayings.{said_so}
use Rattle.feedback_core.proofs.Byes.{bye_unknown, bye_other, bye_without, bye_ends}
use Rattle.feedback_core.proofs.bye.answer_bye.Goals as goal

pub returns-in_default-clause-says : goal.returns-in_default-clause-says
returns-in_default-clause-says c = λ before history any w.
    let s = c.args.desk.now.config.now in
    let v = c.args.desk.now.visitor in
    let p = shown_packet c.args.packet.now in
    said_so s before history (after_bye s v.client p history) (after_bye s v.client p history) c.args.desk.now.queue.now v c.only.result (only (ByeIdle v.client)) c.only.ensures refl
    (bye_unknown s before history c.args.desk.now.queue.now v p c.in_default.is w)

pub returns-then-not-bye_names-clause-says : goal.returns-then-not-bye_names-clause-says
returns-then-not-bye_names-clause-says c = λ before history any w.
    let s = c.args.desk.now.config.now in
    let v = c.args.desk.now.visitor in
    let p = shown_packet c.args.packet.now in
    said_so s before history (after_bye s v.client p history) (after_bye s v.client p history) c.args.desk.now.queue.now v c.only-then-not-bye_names.result (only (ByeIdle v.client))
    c.only-then-not-bye_names.ensures refl
    (bye_other s before history c.args.desk.now.queue.now v p c.in-Some.entry c.in-Some.is (sym c.bye_names.ensures ∙ c.if-not-bye_names.true) w)

pub returns-in_default-open-clause-says : goal.returns-in_default-open-clause-says
returns-in_default-open-clause-says c = λ before history any w.
    let s = c.args.desk.now.config.now in
    let v = c.args.desk.now.visitor in
    let p = shown_packet c.args.packet.now in
    let left : Visitor = record v { entry = None } in
    said_so s before history (after_bye s v.client p history) (after_bye s v.client p history) c.forget.new.self left c.only-in_default-open.result (only (Bye v.client))
    c.only-in_default-open.ensures refl
    (bye_without s before history c.args.desk.now.queue.now c.forget.new.self v p c.in-Some.entry c.in-Some.is (sym c.bye_names.ensures ∙ c.if-not-bye_names.false)
    (sym c.open-open.ensures ∙ c.in_default-open.is) c.forget.ensures w)

pub returns-clause-says : goal.returns-clause-says
returns-clause-says c = λ before history any w.
    let s = c.args.desk.now.config.now in
    let v = c.args.desk.now.visitor in
    bye_ends s before history c.args.desk.now.queue.now c.forget.new.self v (shown_packet c.args.packet.now) c.in-Some.entry c.in-Some-open.open c.channel.result.now c.release.new.self
    c.in-Some.is (sym c.bye_names.ensures ∙ c.if-not-bye_names.false) (sym c.open-open.ensures ∙ c.in-Some-open.is) c.forget.ensures c.channel.ensures.value c.release.ensures w
