use Rattle.std.proofs.Common.{◌++◌, Result, IfErr, sym, subst}
use Rattle.std.proofs.lemmas.Result.{err_from_is_err_and}
use Rattle.rams_model.specs.declared.Status.{Status}
use Rattle.trace_loop.specs.declared.{Stop.Stop, Stop.TheVariants.Memory}
use Rattle.trace_loop.proofs.Writing.{unwritten}
use Rattle.serve_loop.specs.{StopsIn}
use Rattle.takeover.specs.declared.standby.fault.FeedFault.{FeedFault}
use Rattle.takeover.specs.takeover_loop.{outcome_of}
use Rattle.takeover.proofs.takeover_loop.taking.put_fault.Goals as goal

pub returns-in_err-write_refused-in-Line-clause-front : goal.returns-in_err-write_refused-in-Line-clause-front
returns-in_err-write_refused-in-Line-clause-front g c =
    let p = err_from_is_err_and c.from_residual.result c.from_residual.ensures.1 in
    let held = g.K.Sink.held c.args.sink.now in
    let later = g.K.Sink.held c.write_refused.new.sink in
    let waits = c.args.journal.now in
    let left = c.write_refused.new.journal in
    let now = StopsIn held later (waits ++ (outcome_of c.args.fault).text) left in
    subst (λ (r : Result Status Stop). IfErr r now) (sym p.1)
    (subst now (sym p.2) (subst (λ (f : FeedFault). StopsIn held later (waits ++ (outcome_of f).text) left c.in_err-write_refused-in-Line.field-0.0) (sym c.in-Line.is) c.in_err-write_refused-in-Line.ensures.front))

pub returns-in-NoMemory-clause-front : goal.returns-in-NoMemory-clause-front
returns-in-NoMemory-clause-front g c = unwritten (g.K.Sink.held c.args.sink.now) c.args.journal.now (outcome_of c.args.fault).text Memory
