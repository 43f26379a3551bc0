use Rattle.std.proofs.Common.{ℕ, ◌+◌, ◌++◌, length, take, Option, Result, IfErr, sym, ap, subst, ◌∙◌, arith}
use Rattle.std.proofs.lemmas.Result.{err_from_is_err_and}
use Rattle.trace_loop.specs.declared.Stop.{Stop}
use Rattle.serve_loop.specs.{OnlyMemoryStops, StopsIn}
use Rattle.serve_loop.proofs.Steps.{each_error}
use Rattle.takeover.specs.standby.{Seen, first_part}
use Rattle.takeover.proofs.standby.Pieces.{first_is, first_some}
use Rattle.takeover.specs.standby.standby_book.{followed_text}
use Rattle.takeover.specs.takeover_loop.{IsReading}
use Rattle.takeover.proofs.takeover_loop.Lines.{keep_room, on_none, on_stops, over_room, part_over, part_still, reading_none, reading_on}
use Rattle.takeover.proofs.takeover_loop.Parts.{first_fits, first_taken, none_of, some_of}
use Rattle.takeover.proofs.takeover_loop.Within.{some_is}
use Rattle.takeover.proofs.takeover_loop.reading.take_part.Goals as goal

pub slice_bounds-keep-end : goal.slice_bounds-keep-end
slice_bounds-keep-end g c =
    let count = some_is _ c.in-Some.count _ c.in-Some.is c.in_ok-count.ensures.count in
    let fits = first_fits c.args.piece.now in
    let is = count.0 in
    let size = ap length (first_taken c.args.piece.now c.in-Some.count count.0) in
    omega (arith, fits, is, size)

pub keep-requires : goal.keep-requires
keep-requires g c =
    let count = some_is _ c.in-Some.count _ c.in-Some.is c.in_ok-count.ensures.count in
    let some = first_some c.args.piece.now c.requires.some in
    let size = ap length (first_taken c.args.piece.now c.in-Some.count count.0) in
    omega (arith, some, size)

pub returns-in_err-count-clause-stops : goal.returns-in_err-count-clause-stops
returns-in_err-count-clause-stops g c = λ bytes held r.
    each_error c.from_residual.result _ (λ stop. part_still held (g.K.Sink.held c.args.sink.now) c.args.reading.now.standby c.args.reading.now.journal c.args.reading.now.line.items c.args.reading.now.begun bytes (first_part c.args.piece.now) stop r)

pub returns-in_default-clause-part : goal.returns-in_default-clause-part
returns-in_default-clause-part g c = λ bytes held r.
    let read = c.in_ok-count.ensures.part bytes r.read r.unrefused in
    let end = none_of _ _ _ c.in_default.is read.1 in
    part_over held (g.K.Sink.held c.args.sink.now) c.args.reading.now.standby c.read_part.new.standby c.args.reading.now.journal c.args.reading.now.line.items c.args.reading.now.begun bytes (first_part c.args.piece.now) end.0 (first_is c.args.piece.now) r read.0 end.1

pub returns-in_default-clause-steady : goal.returns-in_default-clause-steady
returns-in_default-clause-steady g c = λ bytes held room r h.
    let read = c.in_ok-count.ensures.part bytes r.read r.unrefused in
    let end = none_of _ _ _ c.in_default.is read.1 in
    over_room (g.K.Sink.is_steady c.args.sink.now) c.args.reading.now.journal bytes (first_part c.args.piece.now) end.0 room (first_is c.args.piece.now)
    (reading_none held (g.K.Sink.held c.args.sink.now) c.args.reading.now.standby c.args.reading.now.journal c.args.reading.now.line.items c.args.reading.now.begun bytes r) end.1 h

pub returns-in_err-keep-clause-stops : goal.returns-in_err-keep-clause-stops
returns-in_err-keep-clause-stops g c = λ bytes held r.
    let piece = c.args.piece.now in
    let count = some_is _ c.in-Some.count _ c.in-Some.is c.in_ok-count.ensures.count in
    let part_is = first_taken piece c.in-Some.count count.0 in
    let read = c.in_ok-count.ensures.part bytes r.read r.unrefused in
    let on = on_none c.read_part.new.standby (bytes ++ first_part piece) read.0 count.1 (some_of _ c.in-Some.count _ _ c.in-Some.is read.1) in
    let p = err_from_is_err_and c.from_residual-in_err-keep.result c.from_residual-in_err-keep.ensures.1 in
    let now = StopsIn held (g.K.Sink.held c.keep.new.sink) (followed_text (bytes ++ first_part piece)) c.keep.new.reading.journal in
    subst (λ (x : Result (Option ℕ) Stop). IfErr x now) (sym p.1)
    (subst now (sym p.2) (on_stops held (g.K.Sink.held c.keep.new.sink) c.keep.new.reading.journal bytes (take c.in-Some.count piece) (first_part piece) _ part_is on (c.in_err-keep.ensures.stops piece bytes held part_is r.lines)))

pub returns-in_err-keep-clause-steady : goal.returns-in_err-keep-clause-steady
returns-in_err-keep-clause-steady g c = λ bytes held room r h.
    let piece = c.args.piece.now in
    let count = some_is _ c.in-Some.count _ c.in-Some.is c.in_ok-count.ensures.count in
    let part_is = first_taken piece c.in-Some.count count.0 in
    let read = c.in_ok-count.ensures.part bytes r.read r.unrefused in
    let on = on_none c.read_part.new.standby (bytes ++ first_part piece) read.0 count.1 (some_of _ c.in-Some.count _ _ c.in-Some.is read.1) in
    let none = reading_none held (g.K.Sink.held c.args.sink.now) c.args.reading.now.standby c.args.reading.now.journal c.args.reading.now.line.items c.args.reading.now.begun bytes r in
    let fits = keep_room (g.K.Sink.is_steady c.args.sink.now) c.args.reading.now.journal bytes (take c.in-Some.count piece) (first_part piece) room part_is none on h in
    let stop = c.in_err-keep.ensures.steady piece bytes held room part_is r.lines fits in
    let p = err_from_is_err_and c.from_residual-in_err-keep.result c.from_residual-in_err-keep.ensures.1 in
    subst (λ (x : Result (Option ℕ) Stop). OnlyMemoryStops x (g.K.Sink.is_steady c.keep.new.sink (length c.keep.new.reading.journal + room))) (sym p.1) (p.2 ∙ stop)

pub returns-clause-part : goal.returns-clause-part
returns-clause-part g c = λ bytes held r.
    let piece = c.args.piece.now in
    let count = some_is _ c.in-Some.count _ c.in-Some.is c.in_ok-count.ensures.count in
    let part_is = first_taken piece c.in-Some.count count.0 in
    let read = c.in_ok-count.ensures.part bytes r.read r.unrefused in
    let n = c.keep.new.reading in
    subst (λ (v : Seen). IsReading held (g.K.Sink.held c.keep.new.sink) v n.journal n.line.items n.begun (bytes ++ first_part piece)) (sym c.keep.ensures.standby)
    (reading_on held (g.K.Sink.held c.keep.new.sink) c.read_part.new.standby n.journal n.line.items n.begun bytes (take c.in-Some.count piece) (first_part piece) part_is read.0 count.1 (some_of _ c.in-Some.count _ _ c.in-Some.is read.1)
    (c.in_ok-keep.ensures.kept piece bytes held part_is r.lines))

pub returns-clause-steady : goal.returns-clause-steady
returns-clause-steady g c = λ bytes held room r h.
    let piece = c.args.piece.now in
    let count = some_is _ c.in-Some.count _ c.in-Some.is c.in_ok-count.ensures.count in
    let part_is = first_taken piece c.in-Some.count count.0 in
    let read = c.in_ok-count.ensures.part bytes r.read r.unrefused in
    let on = on_none c.read_part.new.standby (bytes ++ first_part piece) read.0 count.1 (some_of _ c.in-Some.count _ _ c.in-Some.is read.1) in
    let none = reading_none held (g.K.Sink.held c.args.sink.now) c.args.reading.now.standby c.args.reading.now.journal c.args.reading.now.line.items c.args.reading.now.begun bytes r in
    let fits = keep_room (g.K.Sink.is_steady c.args.sink.now) c.args.reading.now.journal bytes (take c.in-Some.count piece) (first_part piece) room part_is none on h in
    c.in_ok-keep.ensures.steady piece bytes held room part_is r.lines fits
