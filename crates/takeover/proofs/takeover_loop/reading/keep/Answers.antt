use Rattle.std.proofs.Common.{ℕ, ◌+◌, List, ◌++◌, true, length, Result, IfErr, sym, subst, ◌∙◌}
use Rattle.std.proofs.lemmas.Result.{err_from_is_err_and}
use Rattle.line_io.specs.Passes.{Passes}
use Rattle.trace_loop.specs.declared.Stop.{Stop}
use Rattle.serve_loop.specs.{OnlyMemoryStops, StopsIn}
use Rattle.serve_loop.proofs.Steps.{each_error}
use Rattle.takeover.specs.standby.{whole_text}
use Rattle.takeover.proofs.standby.Pieces.{IsFirst, first_is}
use Rattle.takeover.specs.takeover_loop.{KeepsLines}
use Rattle.takeover.proofs.takeover_loop.Lines.{fed_line, kept_line, kept_part, kept_stops, line_room, line_stops, part_room, unfed_clean}
use Rattle.takeover.proofs.takeover_loop.reading.keep.Goals as goal

pub returns-in_err-append-clause-stops : goal.returns-in_err-append-clause-stops
returns-in_err-append-clause-stops g c = λ piece bytes held first k.
    let is = subst IsFirst (sym first) (first_is piece) in
    each_error c.from_residual.result _ (λ stop. kept_stops held _ _ _ _ bytes c.args.part.now stop is k)

pub returns-then-not-is_fed-clause-kept : goal.returns-then-not-is_fed-clause-kept
returns-then-not-is_fed-clause-kept g c = λ piece bytes held first k.
    let clean = unfed_clean c.args.part.now (subst IsFirst (sym first) (first_is piece)) (sym c.is_fed.ensures ∙ c.if-not-is_fed.true) in
    subst (λ (l : List ℕ). KeepsLines held (g.K.Sink.held c.args.sink.now) c.args.reading.now.journal l c.args.reading.now.begun (bytes ++ c.args.part.now)) (sym c.in_ok-append.ensures)
    (kept_part held _ _ _ _ bytes c.args.part.now clean k)

pub returns-then-not-is_fed-clause-steady : goal.returns-then-not-is_fed-clause-steady
returns-then-not-is_fed-clause-steady g c = λ piece bytes held room first k h.
    let clean = unfed_clean c.args.part.now (subst IsFirst (sym first) (first_is piece)) (sym c.is_fed.ensures ∙ c.if-not-is_fed.true) in
    part_room (g.K.Sink.is_steady c.args.sink.now) c.args.reading.now.journal bytes c.args.part.now room clean h

pub returns-in_err-put-clause-stops : goal.returns-in_err-put-clause-stops
returns-in_err-put-clause-stops g c = λ piece bytes held first k.
    let part = c.args.part.now in
    let whole = fed_line part (subst IsFirst (sym first) (first_is piece)) (sym c.is_fed.ensures ∙ c.if-not-is_fed.false) in
    let p = err_from_is_err_and c.from_residual-in_err-put.result c.from_residual-in_err-put.ensures.1 in
    let line = c.deref.ensures.value ∙ c.in_ok-append.ensures in
    let stops = subst (λ (l : List ℕ). StopsIn (g.K.Sink.held c.args.sink.now) (g.K.Sink.held c.put.new.sink) (c.args.reading.now.journal ++ l) c.put.new.gather c.in_err-put.field-0.0) line c.in_err-put.ensures.front in
    let now = StopsIn held (g.K.Sink.held c.put.new.sink) (whole_text (bytes ++ part)) c.put.new.gather in
    subst (λ (r : Result (Unit {0}) Stop). IfErr r now) (sym p.1)
    (subst now (sym p.2) (line_stops held (g.K.Sink.held c.args.sink.now) (g.K.Sink.held c.put.new.sink) c.args.reading.now.journal c.args.reading.now.line.items c.put.new.gather c.args.reading.now.begun bytes part whole.0 _ whole.1 whole.2 k stops))

pub returns-in_err-put-clause-steady : goal.returns-in_err-put-clause-steady
returns-in_err-put-clause-steady g c = λ piece bytes held room first k h.
    let part = c.args.part.now in
    let whole = fed_line part (subst IsFirst (sym first) (first_is piece)) (sym c.is_fed.ensures ∙ c.if-not-is_fed.false) in
    let p = err_from_is_err_and c.from_residual-in_err-put.result c.from_residual-in_err-put.ensures.1 in
    let line = c.deref.ensures.value ∙ c.in_ok-append.ensures in
    let fits = line_room (g.K.Sink.is_steady c.args.sink.now) held (g.K.Sink.held c.args.sink.now) c.args.reading.now.journal c.args.reading.now.line.items c.args.reading.now.begun bytes part whole.0 room whole.1 whole.2 k h in
    let stop = c.in_err-put.ensures.steady room (subst (λ (l : List ℕ). g.K.Sink.is_steady c.args.sink.now (length c.args.reading.now.journal + length l + room)) (sym line) fits) in
    subst (λ (r : Result (Unit {0}) Stop). OnlyMemoryStops r (g.K.Sink.is_steady c.put.new.sink (length c.put.new.gather + room))) (sym p.1) (p.2 ∙ stop)

pub returns-clause-kept : goal.returns-clause-kept
returns-clause-kept g c = λ piece bytes held first k.
    let part = c.args.part.now in
    let whole = fed_line part (subst IsFirst (sym first) (first_is piece)) (sym c.is_fed.ensures ∙ c.if-not-is_fed.false) in
    let line = c.deref.ensures.value ∙ c.in_ok-append.ensures in
    let passes = subst (λ (l : List ℕ). Passes (g.K.Sink.held c.args.sink.now) (g.K.Sink.held c.put.new.sink) (c.args.reading.now.journal ++ l) c.put.new.gather) line c.in_ok-put.ensures.all in
    subst (λ (l : List ℕ). KeepsLines held (g.K.Sink.held c.put.new.sink) c.put.new.gather l true (bytes ++ part)) (sym c.clear.ensures.items)
    (kept_line held (g.K.Sink.held c.args.sink.now) (g.K.Sink.held c.put.new.sink) c.args.reading.now.journal c.args.reading.now.line.items c.put.new.gather c.args.reading.now.begun bytes part whole.0 whole.1 whole.2 k passes)

pub returns-clause-steady : goal.returns-clause-steady
returns-clause-steady g c = λ piece bytes held room first k h.
    let part = c.args.part.now in
    let whole = fed_line part (subst IsFirst (sym first) (first_is piece)) (sym c.is_fed.ensures ∙ c.if-not-is_fed.false) in
    let line = c.deref.ensures.value ∙ c.in_ok-append.ensures in
    let fits = line_room (g.K.Sink.is_steady c.args.sink.now) held (g.K.Sink.held c.args.sink.now) c.args.reading.now.journal c.args.reading.now.line.items c.args.reading.now.begun bytes part whole.0 room whole.1 whole.2 k h in
    c.in_ok-put.ensures.steady room (subst (λ (l : List ℕ). g.K.Sink.is_steady c.args.sink.now (length c.args.reading.now.journal + length l + room)) (sym line) fits)
