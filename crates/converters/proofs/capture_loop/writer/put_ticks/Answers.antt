use Rattle.std.proofs.Common.{◌++◌, replicate, refl, sym, subst, arith}
use Rattle.std.proofs.lemmas.Result.{err_from_is_err_and}
use Rattle.server_hub.specs.declared.HubEvent.TheVariants.{Tick}
use Rattle.trace_loop.specs.journal_book.{event_line, event_lines}
use Rattle.trace_loop.proofs.Writing.{IsWriting, writing_begins, writing_has_room, writing_goes_on, writing_stops, writing_ends, writing_ends_steadily}
use Rattle.trace_loop.proofs.Stopping.{err_so, only_err, together}
use Rattle.converters.proofs.capture_loop.Closing.{err_since}
use Rattle.converters.proofs.capture_loop.Ticking.{ticks_all, ticks_next, ticks_none}
use Rattle.converters.proofs.capture_loop.writer.put_ticks.Goals as goal

pub loop-done-init : goal.loop-done-init
loop-done-init g c =
    let a = g.K.Sink.held c.args.sink.now in
    let n = g.K.Sink.faults c.args.sink.now in
    let s = g.K.Sink.is_steady c.args.sink.now in
    let lines = event_lines (replicate c.args.count Tick) in
    subst (IsWriting a a n n s s (c.args.gather.now ++ lines) c.args.gather.now) (sym (ticks_all c.args.count)) (writing_begins a a n n s s c.args.gather.now lines refl refl (λ k h. h))

pub returns-in_err-put_event-clause-front : goal.returns-in_err-put_event-clause-front
returns-in_err-put_event-clause-front g c =
    let p = err_from_is_err_and c.from_residual.result c.from_residual.ensures.1 in
    let l = c.loop-done in
    err_so c.from_residual.result p.0 c.in_err-put_event.field-0.0 _ p.1 p.2
    (writing_stops _ _ _ _ _ _ _ _ _ _ (event_line Tick) _ c.put_event.new.gather c.in_err-put_event.field-0.0 l.invariant (ticks_next c.args.count l.done (omega arith)) c.in_err-put_event.ensures.front)

pub returns-in_err-put_event-clause-cause : goal.returns-in_err-put_event-clause-cause
returns-in_err-put_event-clause-cause g c =
    let p = err_from_is_err_and c.from_residual.result c.from_residual.ensures.1 in
    err_since _ _ _ c.from_residual.result p.0 c.in_err-put_event.field-0.0 p.1 p.2 c.loop-done.invariant.faults c.put_event.ensures.cause.later c.in_err-put_event.ensures.cause.cause

pub returns-in_err-put_event-clause-steady : goal.returns-in_err-put_event-clause-steady
returns-in_err-put_event-clause-steady g c = λ room h.
    let p = err_from_is_err_and c.from_residual.result c.from_residual.ensures.1 in
    let l = c.loop-done in
    let lines = event_lines (replicate c.args.count Tick) in
    let fits = writing_has_room _ _ _ _ _ _ _ _ _ (event_line Tick) _ l.invariant (ticks_next c.args.count l.done (omega arith)) room (together (g.K.Sink.is_steady c.args.sink.now) c.args.gather.now lines room h) in
    only_err c.from_residual.result p.0 c.in_err-put_event.field-0.0 _ p.1 p.2 (c.in_err-put_event.ensures.steady _ fits)

pub loop-done-preserved : goal.loop-done-preserved
loop-done-preserved g c =
    let l = c.loop-done in
    writing_goes_on _ _ _ _ _ _ _ _ _ _ _ _ (event_line Tick) _ c.put_event.new.gather l.invariant (ticks_next c.args.count l.done (omega arith)) c.in_ok-put_event.ensures.all c.put_event.ensures.cause.later c.in_ok-put_event.ensures.steady

pub returns-clause-all : goal.returns-clause-all
returns-clause-all g c = writing_ends _ _ _ _ _ _ _ _ _ c.loop-done.invariant (ticks_none c.args.count c.loop-done.done (omega arith))

pub returns-clause-cause : goal.returns-clause-cause
returns-clause-cause g c = record { later = c.loop-done.invariant.faults; cause = tt }

pub returns-clause-steady : goal.returns-clause-steady
returns-clause-steady g c = λ room h.
    let lines = event_lines (replicate c.args.count Tick) in
    writing_ends_steadily _ _ _ _ _ _ _ _ _ c.loop-done.invariant (ticks_none c.args.count c.loop-done.done (omega arith)) room (together (g.K.Sink.is_steady c.args.sink.now) c.args.gather.now lines room h)
