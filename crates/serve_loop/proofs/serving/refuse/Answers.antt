use Rattle.std.proofs.Common.{◌≡◌, ℕ, ◌+◌, List, [], length, Result, sym, ap, subst, ◌∙◌, arith}
use Rattle.std.proofs.lemmas.Result.{err_from_is_err_and}
use Rattle.line_io.proofs.Passing.{Passes-none, Passes-then}
use Rattle.rams_model.specs.declared.Status.{Status}
use Rattle.rams_model.specs.Texts.{refused_line}
use Rattle.trace_loop.specs.declared.Stop.{Stop}
use Rattle.serve_loop.specs.{IsWriteStop, OnlyMemoryStops}
use Rattle.trace_loop.proofs.Stopping.{err_so, only_err, write_since}
use Rattle.serve_loop.proofs.serving.refuse.Goals as goal
use Rattle.serve_loop.proofs.Closing.{alone}

none_waits : (sink : ℕ → Type 0) (waits text : List ℕ) (room : ℕ) → waits ≡ [] → sink (length text + room) → sink (length waits + length text + room)
none_waits sink waits text room none h =
    let zero = ap length none in
    let size : length text + room ≡ length waits + length text + room = omega (arith, zero) in
    subst sink size h

pub returns-in_err-journal-clause-front : goal.returns-in_err-journal-clause-front
returns-in_err-journal-clause-front g c = (refused_line c.args.line c.args.fault, Passes-none (g.K.Sink.held c.args.sink.now) (refused_line c.args.line c.args.fault))

pub returns-in_err-write_refused-clause-steady : goal.returns-in_err-write_refused-clause-steady
returns-in_err-write_refused-clause-steady g c = λ room h.
    let stop = c.in_err-write_refused.ensures.steady room (none_waits (g.K.Sink.is_steady c.args.sink.now) c.in_ok-journal.journal (refused_line c.args.line c.args.fault) room c.in_ok-journal.ensures h) in
    let p = err_from_is_err_and c.from_residual-in_err-write_refused.result c.from_residual-in_err-write_refused.ensures.1 in
    subst (λ (r : Result Status Stop). OnlyMemoryStops r (g.K.Sink.is_steady c.write_refused.new.sink room)) (sym p.1) (p.2 ∙ stop)

pub returns-in_err-flush-clause-front : goal.returns-in_err-flush-clause-front
returns-in_err-flush-clause-front g c =
    let line = refused_line c.args.line c.args.fault in
    let put = alone (g.K.Sink.held c.args.sink.now) (g.K.Sink.held c.write_refused.new.sink) c.in_ok-journal.journal line c.write_refused.new.journal c.in_ok-journal.ensures c.in_ok-write_refused.ensures.all in
    let front = c.flush.ensures.prefix in
    (front.0, Passes-then (g.K.Sink.held c.args.sink.now) (g.K.Sink.held c.write_refused.new.sink) (g.K.Sink.held c.flush.new.sink) line c.write_refused.new.journal front.0 put front.1)

pub returns-clause-front : goal.returns-clause-front
returns-clause-front g c =
    let line = refused_line c.args.line c.args.fault in
    let put = alone (g.K.Sink.held c.args.sink.now) (g.K.Sink.held c.write_refused.new.sink) c.in_ok-journal.journal line c.write_refused.new.journal c.in_ok-journal.ensures c.in_ok-write_refused.ensures.all in
    let front = c.flush.ensures.prefix in
    (front.0, Passes-then (g.K.Sink.held c.args.sink.now) (g.K.Sink.held c.write_refused.new.sink) (g.K.Sink.held c.flush.new.sink) line c.write_refused.new.journal front.0 put front.1)

pub returns-in_err-write_refused-clause-cause : goal.returns-in_err-write_refused-clause-cause
returns-in_err-write_refused-clause-cause g c =
    let p = err_from_is_err_and c.from_residual-in_err-write_refused.result c.from_residual-in_err-write_refused.ensures.1 in
    let stops = IsWriteStop (g.K.Sink.faults c.args.sink.now) (g.K.Sink.faults c.write_refused.new.sink) in
    record {
      later = c.write_refused.ensures.cause.later;
      cause = err_so c.from_residual-in_err-write_refused.result p.0 c.in_err-write_refused.field-0.0 stops p.1 p.2 c.in_err-write_refused.ensures.cause.cause;
    }

pub returns-in_err-flush-clause-cause : goal.returns-in_err-flush-clause-cause
returns-in_err-flush-clause-cause g c =
    let p = err_from_is_err_and c.from_residual-in_err-flush.result c.from_residual-in_err-flush.ensures.1 in
    let before = g.K.Sink.faults c.args.sink.now in
    let mid = g.K.Sink.faults c.write_refused.new.sink in
    let now = g.K.Sink.faults c.flush.new.sink in
    let written = c.write_refused.ensures.cause.later in
    let flushed = c.flush.ensures.cause.later in
    record {
      later = omega (arith, written, flushed);
      cause =
          err_so c.from_residual-in_err-flush.result p.0 c.in_err-flush.field-0.0 (IsWriteStop before now) p.1 p.2
          (write_since before mid now c.in_err-flush.field-0.0 written c.in_err-flush.ensures.cause.cause);
    }

pub returns-in_err-flush-clause-steady : goal.returns-in_err-flush-clause-steady
returns-in_err-flush-clause-steady g c = λ room h.
    let p = err_from_is_err_and c.from_residual-in_err-flush.result c.from_residual-in_err-flush.ensures.1 in
    let waits = none_waits (g.K.Sink.is_steady c.args.sink.now) c.in_ok-journal.journal (refused_line c.args.line c.args.fault) room c.in_ok-journal.ensures h in
    let written = c.in_ok-write_refused.ensures.steady room waits in
    only_err c.from_residual-in_err-flush.result p.0 c.in_err-flush.field-0.0 (g.K.Sink.is_steady c.flush.new.sink room) p.1 p.2 (c.in_err-flush.ensures.steady room written)
