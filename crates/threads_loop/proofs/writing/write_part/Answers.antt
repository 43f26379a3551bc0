-- One entry's piece more.
use Rattle.std.proofs.Common.{◌+◌, ◌++◌, ap, length, Result, sym, IfErr, ◌∙◌, subst, length-append}
use Rattle.std.proofs.lemmas.Result.{err_from_is_err_and}
use Rattle.trace_loop.specs.declared.Stop.{Stop}
use Rattle.trace_loop.specs.{OnlyMemoryStops, StopsIn}
use Rattle.threads_loop.specs.{part_text}
use Rattle.trace_loop.proofs.Writing.{writing_has_room, writing_goes_on, writing_stops, writing_ends, writing_ends_steadily}
use Rattle.threads_loop.proofs.Pieces.{part_more, part_past, drawn_at}
use Rattle.std.specs.Global.{Vec}
use Rattle.rams_model.specs.declared.Octets.{Octets}
use Rattle.channel_book.specs.declared.Entry.{Entry}
use Rattle.threads_loop.specs.session_worker.live_writer.{datagrams_of}
use Rattle.threads_loop.proofs.writing.write_part.Goals as goal

pub write_piece-requires : goal.write_piece-requires
write_piece-requires g c =
    let s = c.args.config.now in
    let drawn = c.index-drawn-place.result in
    let entry = c.index-entries-place.result in
    c.as_slice-datagrams.ensures.value ∙ ap (λ (d : Vec Octets). d.items) c.index-drawn-place.is ∙ drawn_at s c.args.entries.now c.args.drawn.now c.requires c.loop-place.place drawn entry c.loop-place-test.true
    ∙ ap (λ (e : Entry). datagrams_of s e.answer) (sym c.index-entries-place.is)

pub returns-in_err-write_piece-clause-front : goal.returns-in_err-write_piece-clause-front
returns-in_err-write_piece-clause-front g c =
    let e = part_more c.args.config.now c.args.part c.args.entries.now c.loop-place.place c.index-entries-place.result c.loop-place-test.true c.index-entries-place.is in
    let p = err_from_is_err_and c.from_residual.result c.from_residual.ensures.1 in
    let whole = c.args.writer.now.gather ++ part_text c.args.config.now c.args.part 1 c.args.entries.now in
    let stops = writing_stops _ _ _ _ _ _ (g.K.Sink.held c.write_piece.new.sink) whole _ _ _ _ c.write_piece.new.writer.gather c.in_err-write_piece.field-0.0 c.loop-place.invariant e c.in_err-write_piece.ensures.front in
    subst (λ (r : Result (Unit {0}) Stop). IfErr r (StopsIn (g.K.Sink.held c.args.sink.now) (g.K.Sink.held c.write_piece.new.sink) whole c.write_piece.new.writer.gather)) (sym p.1)
    (subst (StopsIn (g.K.Sink.held c.args.sink.now) (g.K.Sink.held c.write_piece.new.sink) whole c.write_piece.new.writer.gather) (sym p.2) stops)

pub returns-in_err-write_piece-clause-steady : goal.returns-in_err-write_piece-clause-steady
returns-in_err-write_piece-clause-steady g c = λ room s.
    let e = part_more c.args.config.now c.args.part c.args.entries.now c.loop-place.place c.index-entries-place.result c.loop-place-test.true c.index-entries-place.is in
    let all = subst (g.K.Sink.is_steady c.args.sink.now) (ap (λ n. n + room) (sym (length-append c.args.writer.now.gather (part_text c.args.config.now c.args.part 1 c.args.entries.now)))) s in
    let p = err_from_is_err_and c.from_residual.result c.from_residual.ensures.1 in
    let stop = c.in_err-write_piece.ensures.steady _ (writing_has_room _ _ _ _ _ _ _ _ _ _ _ c.loop-place.invariant e room all) in
    subst (λ (r : Result (Unit {0}) Stop). OnlyMemoryStops r (g.K.Sink.is_steady c.write_piece.new.sink (length c.write_piece.new.writer.gather + room))) (sym p.1) (p.2 ∙ stop)

pub loop-place-preserved : goal.loop-place-preserved
loop-place-preserved g c =
    let e = part_more c.args.config.now c.args.part c.args.entries.now c.loop-place.place c.index-entries-place.result c.loop-place-test.true c.index-entries-place.is in
    writing_goes_on _ _ _ _ _ _ (g.K.Sink.held c.write_piece.new.sink) (g.K.Sink.faults c.write_piece.new.sink) (g.K.Sink.is_steady c.write_piece.new.sink) _ _ _ _ _ _
    c.loop-place.invariant e c.in_ok-write_piece.ensures.all c.write_piece.ensures.cause.later c.in_ok-write_piece.ensures.steady

pub returns-clause-all : goal.returns-clause-all
returns-clause-all g c = writing_ends _ _ _ _ _ _ _ _ _ c.loop-place.invariant (part_past c.args.config.now c.args.part c.args.entries.now c.loop-place.place c.loop-place-test.false)

pub returns-clause-steady : goal.returns-clause-steady
returns-clause-steady g c = λ room s.
    writing_ends_steadily _ _ _ _ _ _ _ _ _ c.loop-place.invariant (part_past c.args.config.now c.args.part c.args.entries.now c.loop-place.place c.loop-place-test.false) room
    (subst (g.K.Sink.is_steady c.args.sink.now) (ap (λ n. n + room) (sym (length-append c.args.writer.now.gather (part_text c.args.config.now c.args.part 1 c.args.entries.now)))) s)
