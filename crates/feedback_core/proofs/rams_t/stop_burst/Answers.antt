-- The first line that applies.
use Rattle.std.proofs.Common.{◌∙◌, Some, refl, sym}
use Rattle.rams_model.specs.declared.Note.TheVariants.{StopIdle, StopKept, StopAt}
use Rattle.rams_model.specs.Service.{stop_burst, open_burst}
use Rattle.feedback_core.specs.declared.visitor.Visitor.{Visitor}
use Rattle.feedback_core.specs.{only}
use Rattle.feedback_core.proofs.Sayings.{said_so}
use Rattle.feedback_core.proofs.Stops.{closed_from, unset_from, stop_none, stop_kept, stop_set_at, stop_ends}
use Rattle.feedback_core.proofs.rams_t.stop_burst.Goals as goal

pub returns-in_default-clause-says : goal.returns-in_default-clause-says
returns-in_default-clause-says c = λ before history any w.
    let queue = c.args.desk.now.queue.now in
    let s = c.args.desk.now.config.now in
    let v = c.args.desk.now.visitor in
    let lawful = stop_burst v.client c.args.named (open_burst s v.client history) history in
    said_so s before history lawful lawful queue v c.only.result (only (StopIdle v.client)) c.only.ensures refl
    (stop_none s before history queue v c.args.named (sym c.open.ensures ∙ closed_from c.open.result c.in_default.not-Some) w)

pub returns-in-Some-stop-clause-says : goal.returns-in-Some-stop-clause-says
returns-in-Some-stop-clause-says c = λ before history any w.
    let queue = c.args.desk.now.queue.now in
    let s = c.args.desk.now.config.now in
    let v = c.args.desk.now.visitor in
    let n = c.in-Some-stop.n in
    let lawful = stop_burst v.client c.args.named (open_burst s v.client history) history in
    said_so s before history lawful lawful queue v c.only-in-Some-stop.result (only (StopKept v.client n)) c.only-in-Some-stop.ensures refl
    (stop_kept s before history queue v c.in-Some.open c.args.named n (sym c.open.ensures ∙ c.in-Some.is) c.in-Some-stop.is w)

pub returns-then-n-open-clause-says : goal.returns-then-n-open-clause-says
returns-then-n-open-clause-says c = λ before history any w.
    let queue = c.args.desk.now.queue.now in
    let s = c.args.desk.now.config.now in
    let v = c.args.desk.now.visitor in
    stop_ends s before history queue v c.in-Some.open c.args.named c.stop_of-n.result c.channel.result.now c.release.new.self c.end_info.result
    (sym c.open.ensures ∙ c.in-Some.is) (unset_from c.in-Some.open.burst.stop c.in_default-stop.not-Some) c.stop_of-n.ensures c.if-n-open.true c.channel.ensures.value
    c.release.ensures c.end_info.ensures w

pub returns-clause-says : goal.returns-clause-says
returns-clause-says c = λ before history any w.
    let queue = c.args.desk.now.queue.now in
    let s = c.args.desk.now.config.now in
    let v = c.args.desk.now.visitor in
    let n = c.stop_of-n.result in
    let lawful = stop_burst v.client c.args.named (open_burst s v.client history) history in
    let o = c.in-Some.open in
    let stopped : Visitor = record v { entry = Some (record o.entry { burst = Some (record o.burst { stop = Some n }) }) } in
    said_so s before history lawful lawful queue stopped c.only-2.result (only (StopAt v.client n)) c.only-2.ensures refl
    (stop_set_at s before history queue v c.in-Some.open c.args.named n (sym c.open.ensures ∙ c.in-Some.is) (unset_from c.in-Some.open.burst.stop c.in_default-stop.not-Some)
    c.stop_of-n.ensures c.if-n-open.false w)
