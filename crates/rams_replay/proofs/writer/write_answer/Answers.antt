use Rattle.std.proofs.Common.{◌+◌, ◌++◌, ap, length, Result, sym, IfErr, ◌∙◌, subst, length-append}
use Rattle.std.proofs.lemmas.Result.{err_from_is_err_and}
use Rattle.rams_model.specs.Texts.{answer_text}
use Rattle.trace_loop.specs.declared.Stop.{Stop}
use Rattle.trace_loop.specs.{OnlyMemoryStops, StopsIn}
use Rattle.trace_loop.proofs.Writing.{writing_has_room, writing_goes_on, writing_stops, writing_ends, writing_ends_steadily}
use Rattle.book_text.proofs.answer_text.Notes.{notes_text-more, notes_text-step, notes_text-past}
use Rattle.rams_replay.proofs.writer.write_answer.Goals as goal

pub returns-in_err-write_entry-clause-front : goal.returns-in_err-write_entry-clause-front
returns-in_err-write_entry-clause-front g c =
    let e = notes_text-more c.args.config.now c.args.event c.deref-note-items.result.now c.loop-note.orders c.loop-note.note-index _ c.loop-note-test.true in
    let p = err_from_is_err_and c.from_residual.result c.from_residual.ensures.1 in
    let whole = c.args.writer.now.gather ++ answer_text c.args.config.now c.args.event c.args.answer.now in
    let stops = writing_stops _ _ _ _ _ _ (g.K.Sink.held c.write_entry.new.sink) whole _ _ _ _ c.write_entry.new.writer.gather c.in_err-write_entry.field-0.0 c.loop-note.invariant e c.in_err-write_entry.ensures.front in
    subst (λ (r : Result (Unit {0}) Stop). IfErr r (StopsIn (g.K.Sink.held c.args.sink.now) (g.K.Sink.held c.write_entry.new.sink) whole c.write_entry.new.writer.gather)) (sym p.1)
    (subst (StopsIn (g.K.Sink.held c.args.sink.now) (g.K.Sink.held c.write_entry.new.sink) whole c.write_entry.new.writer.gather) (sym p.2) stops)

pub returns-in_err-write_entry-clause-steady : goal.returns-in_err-write_entry-clause-steady
returns-in_err-write_entry-clause-steady g c = λ room s.
    let e = notes_text-more c.args.config.now c.args.event c.deref-note-items.result.now c.loop-note.orders c.loop-note.note-index _ c.loop-note-test.true in
    let all = subst (g.K.Sink.is_steady c.args.sink.now)
    (ap (λ n. n + room) (sym (length-append c.args.writer.now.gather (answer_text c.args.config.now c.args.event c.args.answer.now)))) s in
    let p = err_from_is_err_and c.from_residual.result c.from_residual.ensures.1 in
    let stop = c.in_err-write_entry.ensures.steady _ (writing_has_room _ _ _ _ _ _ _ _ _ _ _ c.loop-note.invariant e room all) in
    subst (λ (r : Result (Unit {0}) Stop). OnlyMemoryStops r (g.K.Sink.is_steady c.write_entry.new.sink (length c.write_entry.new.writer.gather + room))) (sym p.1) (p.2 ∙ stop)

pub loop-note-preserved : goal.loop-note-preserved
loop-note-preserved g c =
    let notes = c.deref-note-items.result.now in
    let i = c.loop-note.note-index in
    let e = notes_text-step c.args.config.now c.args.event notes c.loop-note.orders c.pass.new.self i _ c.loop-note-test.true c.pass.ensures in
    writing_goes_on _ _ _ _ _ _ (g.K.Sink.held c.write_entry.new.sink) (g.K.Sink.faults c.write_entry.new.sink) (g.K.Sink.is_steady c.write_entry.new.sink) _ _ _ _ _ _
    c.loop-note.invariant e c.in_ok-write_entry.ensures.all c.write_entry.ensures.cause.later c.in_ok-write_entry.ensures.steady

pub returns-clause-all : goal.returns-clause-all
returns-clause-all g c = writing_ends _ _ _ _ _ _ _ _ _ c.loop-note.invariant (notes_text-past _ _ _ _ _ c.loop-note-test.false)

pub returns-clause-steady : goal.returns-clause-steady
returns-clause-steady g c = λ room s.
    writing_ends_steadily _ _ _ _ _ _ _ _ _ c.loop-note.invariant (notes_text-past _ _ _ _ _ c.loop-note-test.false) room
    (subst (g.K.Sink.is_steady c.args.sink.now)
    (ap (λ n. n + room) (sym (length-append c.args.writer.now.gather (answer_text c.args.config.now c.args.event c.args.answer.now)))) s)
