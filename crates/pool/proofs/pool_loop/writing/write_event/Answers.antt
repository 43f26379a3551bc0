-- Where no memory is left, what waits is as it was.
use Rattle.std.proofs.Common.{ℕ, List, ◌++◌, Result, IfErr, ◌∙◌, sym, subst}
use Rattle.std.proofs.lemmas.Result.{err_from_is_err_and}
use Rattle.trace_loop.specs.declared.Stop.{Stop}
use Rattle.trace_loop.specs.{StopsIn}
use Rattle.trace_loop.proofs.Writing.{unwritten}
use Rattle.pool.specs.pool_loop.{all_left, route_text}
use Rattle.pool.proofs.pool_loop.writing.write_event.Goals as goal

pub returns-in_err-append_event-clause-front : goal.returns-in_err-append_event-clause-front
returns-in_err-append_event-clause-front g c =
    let held = g.K.Sink.held c.args.sink.now in
    let waits = c.args.writer.now.gather in
    let text = route_text c.args.event c.args.route.now (all_left c.args.left.now) in
    let waiting = c.append_event.new.text.items in
    let same = c.in_err-append_event.ensures.err ∙ c.text.ensures.now in
    let p = err_from_is_err_and c.from_residual.result c.from_residual.ensures.1 in
    subst (λ (r : Result (Unit {0}) Stop). IfErr r (StopsIn held held (waits ++ text) waiting)) (sym p.1)
    (subst (λ (w : List ℕ). StopsIn held held (waits ++ text) w p.0) (sym same) (unwritten held waits text p.0))
