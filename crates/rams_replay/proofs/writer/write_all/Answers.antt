use Rattle.std.proofs.Common.{◌+◌, ◌++◌, ap, length, Result, sym, IfErr, ◌∙◌, subst, length-append}
use Rattle.std.proofs.lemmas.Result.{err_from_is_err_and}
use Rattle.std.specs.List.{flat_map}
use Rattle.trace_loop.specs.declared.Stop.{Stop}
use Rattle.trace_loop.specs.{OnlyMemoryStops, StopsIn}
use Rattle.rams_replay.specs.{at_text}
use Rattle.trace_loop.proofs.Writing.{writing_has_room, writing_goes_on, writing_stops, writing_ends, writing_ends_steadily}
use Rattle.rams_replay.proofs.Writing.{answers_text-more, answers_text-past}
use Rattle.rams_replay.proofs.writer.write_all.Goals as goal

pub returns-in_err-write_at-clause-front : goal.returns-in_err-write_at-clause-front
returns-in_err-write_at-clause-front g c =
    let e = answers_text-more c.args.hub.now c.args.event c.args.all.now c.loop-at.at-index c.at-item.result c.loop-at-test.true c.at-item.is in
    let p = err_from_is_err_and c.from_residual.result c.from_residual.ensures.1 in
    let whole = c.args.writer.now.gather ++ flat_map (at_text c.args.hub.now c.args.event) c.args.all.now in
    let stops = writing_stops _ _ _ _ _ _ (g.K.Sink.held c.write_at.new.sink) whole _ _ _ _ c.write_at.new.writer.gather c.in_err-write_at.field-0.0 c.loop-at.invariant e c.in_err-write_at.ensures.front in
    subst (λ (r : Result (Unit {0}) Stop). IfErr r (StopsIn (g.K.Sink.held c.args.sink.now) (g.K.Sink.held c.write_at.new.sink) whole c.write_at.new.writer.gather)) (sym p.1)
    (subst (StopsIn (g.K.Sink.held c.args.sink.now) (g.K.Sink.held c.write_at.new.sink) whole c.write_at.new.writer.gather) (sym p.2) stops)

pub returns-in_err-write_at-clause-steady : goal.returns-in_err-write_at-clause-steady
returns-in_err-write_at-clause-steady g c = λ room s.
    let e = answers_text-more c.args.hub.now c.args.event c.args.all.now c.loop-at.at-index c.at-item.result c.loop-at-test.true c.at-item.is in
    let all = subst (g.K.Sink.is_steady c.args.sink.now)
    (ap (λ n. n + room) (sym (length-append c.args.writer.now.gather (flat_map (at_text c.args.hub.now c.args.event) c.args.all.now)))) s in
    let p = err_from_is_err_and c.from_residual.result c.from_residual.ensures.1 in
    let stop = c.in_err-write_at.ensures.steady _ (writing_has_room _ _ _ _ _ _ _ _ _ _ _ c.loop-at.invariant e room all) in
    subst (λ (r : Result (Unit {0}) Stop). OnlyMemoryStops r (g.K.Sink.is_steady c.write_at.new.sink (length c.write_at.new.writer.gather + room))) (sym p.1) (p.2 ∙ stop)

pub loop-at-preserved : goal.loop-at-preserved
loop-at-preserved g c =
    let e = answers_text-more c.args.hub.now c.args.event c.args.all.now c.loop-at.at-index c.at-item.result c.loop-at-test.true c.at-item.is in
    writing_goes_on _ _ _ _ _ _ (g.K.Sink.held c.write_at.new.sink) (g.K.Sink.faults c.write_at.new.sink) (g.K.Sink.is_steady c.write_at.new.sink) _ _ _ _ _ _
    c.loop-at.invariant e c.in_ok-write_at.ensures.all c.write_at.ensures.cause.later c.in_ok-write_at.ensures.steady

pub returns-clause-all : goal.returns-clause-all
returns-clause-all g c = writing_ends _ _ _ _ _ _ _ _ _ c.loop-at.invariant (answers_text-past _ _ _ _ c.loop-at-test.false)

pub returns-clause-steady : goal.returns-clause-steady
returns-clause-steady g c = λ room s.
    writing_ends_steadily _ _ _ _ _ _ _ _ _ c.loop-at.invariant (answers_text-past _ _ _ _ c.loop-at-test.false) room
    (subst (g.K.Sink.is_steady c.args.sink.now)
    (ap (λ n. n + room) (sym (length-append c.args.writer.now.gather (flat_map (at_text c.args.hub.now c.args.event) c.args.all.now)))) s)
