-- What can't be read is refused.
use Rattle.std.proofs.Common.{◌≡◌, ◌∙◌, Ok, Err, sym, ap}
use Rattle.rams_model.specs.Formats.{request_at}
use Rattle.rams_model.specs.Service.{verdict}
use Rattle.wire_packets.specs.rams_tlv.{shown_request}
use Rattle.feedback_core.proofs.Verdicts.{refused, answers_so, unread_request}
use Rattle.feedback_core.proofs.rams_r.answer_request.Goals as goal

pub returns-in-Ok-clause-answers : goal.returns-in-Ok-clause-answers
returns-in-Ok-clause-answers c = λ before history heard w.
    let queue = c.args.desk.now.queue.now in
    let s = c.args.desk.now.config.now in
    let k = c.args.desk.now.visitor.client in
    let read : Ok (shown_request c.in-Ok.request) ≡ request_at c.args.fci.now = c.in-Ok.ensures.exact in
    answers_so s before history queue c.on_request.new.desk.visitor c.on_request.result (verdict s k history (Ok (shown_request c.in-Ok.request)))
    (verdict s k history (request_at c.args.fci.now)) (ap (verdict s k history) read) (c.on_request.ensures.answers before history heard w)

pub returns-in-Err-clause-answers : goal.returns-in-Err-clause-answers
returns-in-Err-clause-answers c = λ before history heard w.
    let queue = c.args.desk.now.queue.now in
    let s = c.args.desk.now.config.now in
    let v = c.args.desk.now.visitor in
    let fault = c.in-Err.field-0 in
    let unread : Err fault ≡ request_at c.args.fci.now = c.in-Err.ensures.exact in
    refused s before history queue v c.refuse.result (verdict s v.client history (request_at c.args.fci.now)) 400 c.refuse.ensures
    (ap (verdict s v.client history) (sym unread) ∙ unread_request s v.client history fault) w
