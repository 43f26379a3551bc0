use Rattle.std.proofs.Common.{◌<◌, ◌++◌, length, Result, Err, sym, subst, ◌∙◌, arith, length-append}
use Rattle.std.proofs.lemmas.Result.{err_from_is_err_and}
use Rattle.trace_loop.specs.trace_book.trace_serving.{turn}
use Rattle.trace_loop.specs.trace_book.{run}
use Rattle.trace_loop.proofs.LongLines.{long_refused}
use Rattle.takeover.specs.declared.{standby.fault.FeedFault.FeedFault, standby.fault.Step.Step}
use Rattle.takeover.specs.standby.{Stands, Took}
use Rattle.takeover.proofs.standby.part.take_whole.Goals as goal

pub returns-in_err-append-clause-turn : goal.returns-in_err-append-clause-turn
returns-in_err-append-clause-turn c = λ stage number stands is.
    let old = c.args.channels.now in
    let line = c.args.part.now.items ++ c.args.rest.now in
    let p = err_from_is_err_and c.from_residual.result c.from_residual.ensures.1 in
    let long : 4096 < length line = omega (arith, length-append c.args.part.now.items c.args.rest.now, c.in_err-append.ensures.long) in
    subst (λ (r : Result Step FeedFault). Took r (turn run stage number line) (Stands old.hub old.ids.items old.events old.state) number) (sym p.1)
    (subst (λ (f : FeedFault). Took (Err f) (turn run stage number line) (Stands old.hub old.ids.items old.events old.state) number) (sym (p.2 ∙ c.in_err-append.ensures.fault))
    (sym is, long_refused run stage number line long))
