-- One event more.
use Rattle.std.proofs.Common.{◌+◌, ◌++◌, ap, length, Result, sym, IfErr, ◌∙◌, subst, length-append}
use Rattle.std.proofs.lemmas.Result.{err_from_is_err_and}
use Rattle.trace_loop.specs.declared.Stop.{Stop}
use Rattle.trace_loop.specs.{OnlyMemoryStops, StopsIn}
use Rattle.trace_loop.proofs.Writing.{writing_has_room, writing_goes_on, writing_stops, writing_ends, writing_ends_steadily}
use Rattle.pool.specs.pool_loop.{all_left, walk_text}
use Rattle.pool.proofs.pool_loop.Pieces.{walk_more, walk_next, walk_past}
use Rattle.pool.proofs.pool_loop.writing.write_events.Goals as goal

pub returns-in_err-write_event-clause-front : goal.returns-in_err-write_event-clause-front
returns-in_err-write_event-clause-front g c =
    let e = walk_more c.args.routes.now (all_left c.loop-place.left) c.loop-place.place _ c.loop-place-test.true in
    let p = err_from_is_err_and c.from_residual.result c.from_residual.ensures.1 in
    let whole = c.args.writer.now.gather ++ walk_text 1 c.args.routes.now (all_left c.args.left.now) in
    let stops = writing_stops _ _ _ _ _ _ (g.K.Sink.held c.write_event.new.sink) whole _ _ _ _ c.write_event.new.writer.gather c.in_err-write_event.field-0.0 c.loop-place.invariant.writing e c.in_err-write_event.ensures.front in
    subst (λ (r : Result (Unit {0}) Stop). IfErr r (StopsIn (g.K.Sink.held c.args.sink.now) (g.K.Sink.held c.write_event.new.sink) whole c.write_event.new.writer.gather)) (sym p.1)
    (subst (StopsIn (g.K.Sink.held c.args.sink.now) (g.K.Sink.held c.write_event.new.sink) whole c.write_event.new.writer.gather) (sym p.2) stops)

pub returns-in_err-write_event-clause-steady : goal.returns-in_err-write_event-clause-steady
returns-in_err-write_event-clause-steady g c = λ room s.
    let e = walk_more c.args.routes.now (all_left c.loop-place.left) c.loop-place.place _ c.loop-place-test.true in
    let all = subst (g.K.Sink.is_steady c.args.sink.now) (ap (λ n. n + room) (sym (length-append c.args.writer.now.gather (walk_text 1 c.args.routes.now (all_left c.args.left.now))))) s in
    let p = err_from_is_err_and c.from_residual.result c.from_residual.ensures.1 in
    let stop = c.in_err-write_event.ensures.steady _ (writing_has_room _ _ _ _ _ _ _ _ _ _ _ c.loop-place.invariant.writing e room all) in
    subst (λ (r : Result (Unit {0}) Stop). OnlyMemoryStops r (g.K.Sink.is_steady c.write_event.new.sink (length c.write_event.new.writer.gather + room))) (sym p.1) (p.2 ∙ stop)

pub loop-place-preserved : goal.loop-place-preserved
loop-place-preserved g c =
    let books = all_left c.loop-place.left in
    let past = c.in_ok-write_event.ensures.left in
    record {
      writing = writing_goes_on _ _ _ _ _ _ (g.K.Sink.held c.write_event.new.sink) (g.K.Sink.faults c.write_event.new.sink) (g.K.Sink.is_steady c.write_event.new.sink) _ _ _ _ _ _
          c.loop-place.invariant.writing (walk_next c.args.routes.now books (all_left c.write_event.new.left) c.loop-place.place _ c.loop-place-test.true past) c.in_ok-write_event.ensures.all c.write_event.ensures.cause.later c.in_ok-write_event.ensures.steady;
    }

pub returns-clause-all : goal.returns-clause-all
returns-clause-all g c = writing_ends _ _ _ _ _ _ _ _ _ c.loop-place.invariant.writing (walk_past c.args.routes.now (all_left c.loop-place.left) c.loop-place.place c.loop-place-test.false)

pub returns-clause-steady : goal.returns-clause-steady
returns-clause-steady g c = λ room s.
    writing_ends_steadily _ _ _ _ _ _ _ _ _ c.loop-place.invariant.writing (walk_past c.args.routes.now (all_left c.loop-place.left) c.loop-place.place c.loop-place-test.false) room
    (subst (g.K.Sink.is_steady c.args.sink.now) (ap (λ n. n + room) (sym (length-append c.args.writer.now.gather (walk_text 1 c.args.routes.now (all_left c.args.left.now))))) s)
