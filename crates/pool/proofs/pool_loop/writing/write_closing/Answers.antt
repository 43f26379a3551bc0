use Rattle.std.proofs.Common.{◌++◌, Result, IfErr, sym, subst}
use Rattle.std.proofs.lemmas.Result.{err_from_is_err_and}
use Rattle.trace_loop.specs.declared.Stop.{Stop}
use Rattle.trace_loop.specs.{StopsIn}
use Rattle.trace_loop.proofs.Writing.{unwritten}
use Rattle.pool.specs.pool_loop.{closing_text}
use Rattle.pool.proofs.pool_loop.writing.write_closing.Goals as goal

pub returns-in_err-append_count-clause-front : goal.returns-in_err-append_count-clause-front
returns-in_err-append_count-clause-front g c =
    let held = g.K.Sink.held c.args.sink.now in
    let waits = c.args.writer.now.gather in
    let text = closing_text c.args.events c.args.ids.now c.args.ledger.now.granted c.args.ledger.now.claims.items in
    let p = err_from_is_err_and c.from_residual.result c.from_residual.ensures.1 in
    subst (λ (r : Result (Unit {0}) Stop). IfErr r (StopsIn held held (waits ++ text) waits)) (sym p.1) (unwritten held waits text p.0)

pub returns-in_err-append_ledger-clause-front : goal.returns-in_err-append_ledger-clause-front
returns-in_err-append_ledger-clause-front g c =
    let held = g.K.Sink.held c.args.sink.now in
    let waits = c.args.writer.now.gather in
    let text = closing_text c.args.events c.args.ids.now c.args.ledger.now.granted c.args.ledger.now.claims.items in
    let p = err_from_is_err_and c.from_residual-in_err-append_ledger.result c.from_residual-in_err-append_ledger.ensures.1 in
    subst (λ (r : Result (Unit {0}) Stop). IfErr r (StopsIn held held (waits ++ text) waits)) (sym p.1) (unwritten held waits text p.0)
