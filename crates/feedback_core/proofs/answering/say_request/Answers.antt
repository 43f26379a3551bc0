-- The verdict, and what its client is told.
use Rattle.rams_model.specs.Formats.{request_at}
use Rattle.feedback_core.proofs.Told.{said_reply}
use Rattle.feedback_core.proofs.answering.say_request.Goals as goal

pub returns-clause-says : goal.returns-clause-says
returns-clause-says c = λ before history heard w.
    let queue = c.args.desk.now.queue.now in
    let a = c.answer_request-note.ensures.answers before history heard w in
    said_reply c.args.desk.now.config.now before history queue c.answer_request-note.new.desk.visitor c.args.desk.now.visitor.client (request_at c.args.fci.now) c.answer_request-note.result
    c.request_info.result a.is_lawful c.answer_request-note.ensures.one.client c.request_info.ensures a.visit
