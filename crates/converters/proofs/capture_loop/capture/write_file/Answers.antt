use Rattle.std.proofs.Common.{Ok, ap}
use Rattle.std.proofs.lemmas.Result.{err_from_is_err_and, IfErr-weaker}
use Rattle.std.specs.Io.KnownBytes.{prepend_known}
use Rattle.rams_model.specs.declared.Status.TheVariants.{Done}
use Rattle.trace_loop.proofs.Running.{told_gives}
use Rattle.converters.specs.capture_loop.{file_text, new_clock}
use Rattle.trace_loop.proofs.Stopping.{err_so, only_err}
use Rattle.converters.proofs.capture_loop.Closing.{last_goes, last_stops, never_read}
use Rattle.converters.proofs.capture_loop.Stopping.{both_ok, done_end, ends_so, given_on, not_ok, read_was, stopped_then}
use Rattle.converters.proofs.capture_loop.capture.write_file.Goals as goal

pub returns-in_err-end-clause-journal : goal.returns-in_err-end-clause-journal
returns-in_err-end-clause-journal g c = λ e.
    let p = err_from_is_err_and c.from_residual.result c.from_residual.ensures.1 in
    absurd (not_ok c.from_residual.result p.0 Done p.1 e)

pub returns-in_err-end-clause-ended : goal.returns-in_err-end-clause-ended
returns-in_err-end-clause-ended g c = λ e.
    let p = err_from_is_err_and c.from_residual.result c.from_residual.ensures.1 in
    absurd (not_ok c.from_residual.result p.0 Done p.1 e)

pub returns-in_err-end-clause-front : goal.returns-in_err-end-clause-front
returns-in_err-end-clause-front g c =
    let p = err_from_is_err_and c.from_residual.result c.from_residual.ensures.1 in
    err_so c.from_residual.result p.0 c.in_err-end.field-0.0 _ p.1 p.2 c.in_err-end.ensures.front

pub returns-in_err-end-clause-read : goal.returns-in_err-end-clause-read
returns-in_err-end-clause-read g c = λ e.
    let p = err_from_is_err_and c.from_residual.result c.from_residual.ensures.1 in
    c.in_err-end.ensures.read (read_was c.from_residual.result p.0 c.in_err-end.field-0.0 p.1 p.2 e)

pub returns-in_err-end-clause-cause : goal.returns-in_err-end-clause-cause
returns-in_err-end-clause-cause g c =
    let p = err_from_is_err_and c.from_residual.result c.from_residual.ensures.1 in
    given_on _ _ _ _ c.from_residual.result p.0 c.in_err-end.field-0.0 p.1 p.2 c.in_err-end.ensures.cause

pub returns-in_err-end-clause-steady : goal.returns-in_err-end-clause-steady
returns-in_err-end-clause-steady g c = λ s channels numbered.
    let p = err_from_is_err_and c.from_residual.result c.from_residual.ensures.1 in
    told_gives (prepend_known c.args.intake.now (g.S.Source.left c.args.source.now)) _ _ (λ xs has. λ room h. only_err c.from_residual.result p.0 c.in_err-end.field-0.0 _ p.1 p.2 (has room h)) (c.in_err-end.ensures.steady s channels numbered)

pub returns-clause-status : goal.returns-clause-status
returns-clause-status g c =
    ends_so c.write_last.result c.in_ok-end.end c.write_last.ensures.status

pub returns-clause-text : goal.returns-clause-text
returns-clause-text g c =
    both_ok c.write_last.result _ _ _
    (λ status is p channels numbered. told_gives (prepend_known c.args.intake.now (g.S.Source.left c.args.source.now)) _ _ (λ xs come. last_goes (g.K.Sink.held c.args.sink.now) (g.K.Sink.held c.write_events.new.sink) (g.K.Sink.held c.write_last.new.sink) c.args.gather.now c.write_events.new.gather c.write_last.new.gather (file_text c.args.port channels (new_clock c.args.opened.now.hub.tick) xs) c.in_ok-end.end status come p is) (c.in_ok-end.ensures.text channels numbered))
    c.write_last.ensures.status c.write_last.ensures.all

pub returns-clause-journal : goal.returns-clause-journal
returns-clause-journal g c = λ e channels numbered.
    c.in_ok-end.ensures.journal (ap Ok (done_end c.write_last.result c.in_ok-end.end c.write_last.ensures.status e)) channels numbered

pub returns-clause-ended : goal.returns-clause-ended
returns-clause-ended g c = λ e.
    c.in_ok-end.ensures.ended (ap Ok (done_end c.write_last.result c.in_ok-end.end c.write_last.ensures.status e))

pub returns-clause-front : goal.returns-clause-front
returns-clause-front g c =
    IfErr-weaker c.write_last.result _ _
    (λ stop h channels numbered. told_gives (prepend_known c.args.intake.now (g.S.Source.left c.args.source.now)) _ _ (λ xs come. last_stops (g.K.Sink.held c.args.sink.now) (g.K.Sink.held c.write_events.new.sink) (g.K.Sink.held c.write_last.new.sink) c.args.gather.now c.write_events.new.gather c.write_last.new.gather (file_text c.args.port channels (new_clock c.args.opened.now.hub.tick) xs) c.in_ok-end.end stop come h) (c.in_ok-end.ensures.text channels numbered))
    c.write_last.ensures.front

pub returns-clause-read : goal.returns-clause-read
returns-clause-read g c = λ e.
    absurd (never_read _ _ c.write_last.result c.write_last.ensures.cause e)

pub returns-clause-cause : goal.returns-clause-cause
returns-clause-cause g c =
    stopped_then _ _ _ _ _ c.write_events.result c.write_last.result c.write_events.ensures.cause c.write_last.ensures.cause

pub returns-clause-steady : goal.returns-clause-steady
returns-clause-steady g c = λ s channels numbered.
    told_gives (prepend_known c.args.intake.now (g.S.Source.left c.args.source.now)) _ _ (λ xs has. λ room h. c.write_last.ensures.steady room (has room h)) (c.in_ok-end.ensures.steady s channels numbered)
