use Rattle.serve_loop.proofs.Steps.{each_error}
use Rattle.takeover.specs.standby.standby_book.{followed_text}
use Rattle.takeover.proofs.takeover_loop.Over.{lines_alone, lines_gone, ok_of, err_of, quiet_still, refused_all, refused_cause, refused_ends, refused_room, refused_stopped, served_ends, turns_room}
use Rattle.std.proofs.lemmas.Result.{IfOk-weaker}
use Rattle.takeover.proofs.takeover_loop.taking.go_on.Goals as goal

pub returns-in_err-taken-clause-stopped : goal.returns-in_err-taken-clause-stopped
returns-in_err-taken-clause-stopped g c = λ given held is over.
    each_error c.from_residual.result _ (λ stop. lines_alone given held (g.K.Sink.held c.args.sink.now) (g.W.Wire.sent c.args.wire.now) c.args.reading.journal over.text)

pub returns-in-Ok-clause-ended : goal.returns-in-Ok-clause-ended
returns-in-Ok-clause-ended g c = λ given held is over.
    let text = lines_gone held (g.K.Sink.held c.args.sink.now) (followed_text given.source) c.args.reading.journal over.text c.requires.waits in
    c.serve_on.ensures.ended given held is (ok_of _ c.in-Ok.taken _ _ c.in-Ok.is (c.in_ok-taken.ensures.taken given.source over.read over.begun_is)) text

pub returns-in-Ok-clause-stopped : goal.returns-in-Ok-clause-stopped
returns-in-Ok-clause-stopped g c = λ given held is over.
    let text = lines_gone held (g.K.Sink.held c.args.sink.now) (followed_text given.source) c.args.reading.journal over.text c.requires.waits in
    c.serve_on.ensures.stopped given held is (ok_of _ c.in-Ok.taken _ _ c.in-Ok.is (c.in_ok-taken.ensures.taken given.source over.read over.begun_is)) text

pub returns-in-Ok-clause-status : goal.returns-in-Ok-clause-status
returns-in-Ok-clause-status g c = served_ends c.serve_on.result c.serve_on.ensures.status

pub returns-in-Ok-clause-steady : goal.returns-in-Ok-clause-steady
returns-in-Ok-clause-steady g c = λ given held more is over h.
    let text = lines_gone held (g.K.Sink.held c.args.sink.now) (followed_text given.source) c.args.reading.journal over.text c.requires.waits in
    let taken = ok_of _ c.in-Ok.taken _ _ c.in-Ok.is (c.in_ok-taken.ensures.taken given.source over.read over.begun_is) in
    c.serve_on.ensures.steady given held more is taken text (turns_room given (g.K.Sink.is_steady c.args.sink.now) (g.W.Wire.is_steady c.args.wire.now) more _ _ taken.ends h.text_fits h)

pub returns-clause-ended : goal.returns-clause-ended
returns-clause-ended g c = λ given held is over.
    let text = lines_gone held (g.K.Sink.held c.args.sink.now) (followed_text given.source) c.args.reading.journal over.text c.requires.waits in
    let e = err_of _ c.in-Err.fault _ _ c.in-Err.is (c.in_ok-taken.ensures.taken given.source over.read over.begun_is) in
    refused_all given c.in-Err.fault held (g.K.Sink.held c.args.sink.now) (g.K.Sink.held c.refuse.new.sink) (g.W.Wire.sent c.args.wire.now) (g.W.Wire.arrivals c.args.wire.now) c.refuse.result e text c.refuse.ensures.status c.refuse.ensures.text

pub returns-clause-stopped : goal.returns-clause-stopped
returns-clause-stopped g c = λ given held is over.
    let text = lines_gone held (g.K.Sink.held c.args.sink.now) (followed_text given.source) c.args.reading.journal over.text c.requires.waits in
    let e = err_of _ c.in-Err.fault _ _ c.in-Err.is (c.in_ok-taken.ensures.taken given.source over.read over.begun_is) in
    let front = c.refuse.ensures.front in
    each_error c.refuse.result _ (λ stop. refused_stopped given c.in-Err.fault held (g.K.Sink.held c.args.sink.now) (g.K.Sink.held c.refuse.new.sink) (g.W.Wire.sent c.args.wire.now) front.0 e text front.1)

pub returns-clause-status : goal.returns-clause-status
returns-clause-status g c = IfOk-weaker c.refuse.result _ _ (λ status is. refused_ends c.in-Err.fault status is) c.refuse.ensures.status

pub returns-clause-cause : goal.returns-clause-cause
returns-clause-cause g c = refused_cause _ _ (g.W.Wire.faults c.args.wire.now) c.refuse.result c.refuse.ensures.cause

pub returns-clause-steady : goal.returns-clause-steady
returns-clause-steady g c = λ given held more is over h.
    let e = err_of _ c.in-Err.fault _ _ c.in-Err.is (c.in_ok-taken.ensures.taken given.source over.read over.begun_is) in
    quiet_still given c.in-Err.fault c.refuse.result (g.K.Sink.is_steady c.refuse.new.sink) (g.K.Sink.is_steady c.args.sink.now) (g.W.Wire.is_steady c.args.wire.now) _ more e h
    (c.refuse.ensures.steady more.text (refused_room given c.in-Err.fault (g.K.Sink.is_steady c.args.sink.now) more.text e h.text_fits))
