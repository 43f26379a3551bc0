-- What can't be read is refused.
use Rattle.std.proofs.Common.{◌∙◌, Ok, refl, sym, ap}
use Rattle.rams_model.specs.Service.{after_stop}
use Rattle.rams_model.specs.Formats.{stop_at}
use Rattle.feedback_core.proofs.Sayings.{said_so}
use Rattle.feedback_core.proofs.Stops.{stop_unread}
use Rattle.feedback_core.proofs.rams_t.answer_stop.Goals as goal

pub returns-in-Ok-clause-says : goal.returns-in-Ok-clause-says
returns-in-Ok-clause-says c = λ before history any w.
    let queue = c.args.desk.now.queue.now in
    let s = c.args.desk.now.config.now in
    let k = c.args.desk.now.visitor.client in
    said_so s before history (after_stop s k (Ok c.in-Ok.stop) history) (after_stop s k (stop_at c.args.fci.now) history) queue c.stop_burst.new.desk.visitor c.stop_burst.result
    c.stop_burst.result refl (ap (λ r. after_stop s k r history) (sym c.in-Ok.is ∙ c.read_stop.ensures)) (c.stop_burst.ensures.says before history any w)

pub returns-in-Err-clause-says : goal.returns-in-Err-clause-says
returns-in-Err-clause-says c = λ before history any w.
    let queue = c.args.desk.now.queue.now in
    stop_unread c.args.desk.now.config.now before history queue c.args.desk.now.visitor (stop_at c.args.fci.now) c.in-Err.field-0 c.refuse_info.result
    (sym c.read_stop.ensures ∙ c.in-Err.is) c.refuse_info.ensures w
