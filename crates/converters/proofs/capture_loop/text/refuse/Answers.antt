use Rattle.std.proofs.Common.{◌≡◌, ℕ, ◌+◌, List, ◌++◌, length, ap, subst, ◌∙◌, arith}
use Rattle.std.proofs.lemmas.Result.{err_from_is_err_and}
use Rattle.line_io.proofs.Passing.{Passes-none}
use Rattle.rams_model.specs.Texts.{refused_line}
use Rattle.trace_loop.proofs.Stopping.{only_err}
use Rattle.converters.proofs.capture_loop.text.refuse.Goals as goal

pub returns-in_err-gather-clause-front : goal.returns-in_err-gather-clause-front
returns-in_err-gather-clause-front g c =
    ((refused_line c.args.line c.args.fault), Passes-none (g.K.Sink.held c.args.sink.now) (refused_line c.args.line c.args.fault))

pub returns-in_err-append_refused-clause-front : goal.returns-in_err-append_refused-clause-front
returns-in_err-append_refused-clause-front g c =
    ((refused_line c.args.line c.args.fault), Passes-none (g.K.Sink.held c.args.sink.now) (refused_line c.args.line c.args.fault))

pub returns-in_err-flush-clause-steady : goal.returns-in_err-flush-clause-steady
returns-in_err-flush-clause-steady g c = λ h.
    let line = refused_line c.args.line c.args.fault in
    let waits = c.append_refused.new.text.items in
    let is : waits ≡ line = c.in_ok-append_refused.ensures.text ∙ ap (λ (l : List ℕ). l ++ line) (c.text.ensures.now ∙ c.in_ok-gather.ensures) in
    let size = ap length is in
    let room : length line ≡ length waits + 0 = omega (arith, size) in
    let p = err_from_is_err_and c.from_residual-in_err-flush.result c.from_residual-in_err-flush.ensures.1 in
    only_err c.from_residual-in_err-flush.result p.0 c.in_err-flush.field-0.0 _ p.1 p.2 (c.in_err-flush.ensures.steady 0 (subst (g.K.Sink.is_steady c.args.sink.now) room h))
