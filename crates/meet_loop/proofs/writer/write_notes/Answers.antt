use Rattle.std.proofs.Common.{◌+◌, ◌++◌, ap, length, Result, sym, IfErr, ◌∙◌, subst, length-append}
use Rattle.std.proofs.lemmas.Result.{err_from_is_err_and}
use Rattle.trace_loop.specs.declared.Stop.{Stop}
use Rattle.trace_loop.specs.{OnlyMemoryStops, StopsIn}
use Rattle.meet_loop.specs.world_text.{notes_lines}
use Rattle.trace_loop.proofs.Writing.{writing_has_room, writing_goes_on, writing_stops, writing_ends, writing_ends_steadily}
use Rattle.meet_loop.proofs.Writing.{notes_lines-split, notes_lines-past}
use Rattle.meet_loop.proofs.writer.write_notes.Goals as goal

pub returns-in_err-write_part-clause-front : goal.returns-in_err-write_part-clause-front
returns-in_err-write_part-clause-front g c =
    let e = notes_lines-split c.args.event c.args.notes.now c.next_part-part.result.now c.loop-written.written c.next_part-part.ensures.those in
    let p = err_from_is_err_and c.from_residual.result c.from_residual.ensures.1 in
    let whole = c.args.writer.now.gather ++ notes_lines c.args.event c.args.notes.now in
    let stops = writing_stops _ _ _ _ _ _ (g.K.Sink.held c.write_part.new.sink) whole _ _ _ _ c.write_part.new.writer.gather c.in_err-write_part.field-0.0 c.loop-written.invariant.lines e c.in_err-write_part.ensures.front in
    subst (λ (r : Result (Unit {0}) Stop). IfErr r (StopsIn (g.K.Sink.held c.args.sink.now) (g.K.Sink.held c.write_part.new.sink) whole c.write_part.new.writer.gather)) (sym p.1)
    (subst (StopsIn (g.K.Sink.held c.args.sink.now) (g.K.Sink.held c.write_part.new.sink) whole c.write_part.new.writer.gather) (sym p.2) stops)

pub returns-in_err-write_part-clause-steady : goal.returns-in_err-write_part-clause-steady
returns-in_err-write_part-clause-steady g c = λ room s.
    let e = notes_lines-split c.args.event c.args.notes.now c.next_part-part.result.now c.loop-written.written c.next_part-part.ensures.those in
    let all = subst (g.K.Sink.is_steady c.args.sink.now) (ap (λ n. n + room) (sym (length-append c.args.writer.now.gather (notes_lines c.args.event c.args.notes.now)))) s in
    let p = err_from_is_err_and c.from_residual.result c.from_residual.ensures.1 in
    let stop = c.in_err-write_part.ensures.steady _ (writing_has_room _ _ _ _ _ _ _ _ _ _ _ c.loop-written.invariant.lines e room all) in
    subst (λ (r : Result (Unit {0}) Stop). OnlyMemoryStops r (g.K.Sink.is_steady c.write_part.new.sink (length c.write_part.new.writer.gather + room))) (sym p.1) (p.2 ∙ stop)

pub loop-written-preserved : goal.loop-written-preserved
loop-written-preserved g c =
    let e = notes_lines-split c.args.event c.args.notes.now c.next_part-part.result.now c.loop-written.written c.next_part-part.ensures.those in
    record {
      within = c.next_part-part.ensures.within;
      lines = writing_goes_on _ _ _ _ _ _ (g.K.Sink.held c.write_part.new.sink) (g.K.Sink.faults c.write_part.new.sink) (g.K.Sink.is_steady c.write_part.new.sink) _ _ _ _ _ _
          c.loop-written.invariant.lines e c.in_ok-write_part.ensures.all c.write_part.ensures.cause.later c.in_ok-write_part.ensures.steady;
    }

pub returns-clause-all : goal.returns-clause-all
returns-clause-all g c =
    writing_ends _ _ _ _ _ _ _ _ _ c.loop-written.invariant.lines (notes_lines-past c.args.event c.args.notes.now c.loop-written.written c.loop-written-test.false)

pub returns-clause-steady : goal.returns-clause-steady
returns-clause-steady g c = λ room s.
    writing_ends_steadily _ _ _ _ _ _ _ _ _ c.loop-written.invariant.lines (notes_lines-past c.args.event c.args.notes.now c.loop-written.written c.loop-written-test.false) room
    (subst (g.K.Sink.is_steady c.args.sink.now) (ap (λ n. n + room) (sym (length-append c.args.writer.now.gather (notes_lines c.args.event c.args.notes.now)))) s)
