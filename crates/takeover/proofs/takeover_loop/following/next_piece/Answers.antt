use Rattle.std.proofs.Common.{◌≡◌, ℕ, List, Bool, take, Result, IfErr, Some, sym, subst, ◌∙◌}
use Rattle.std.proofs.lemmas.Result.{err_from_is_err_and}
use Rattle.line_io.specs.Passes.{Passes}
use Rattle.trace_loop.specs.declared.Stop.{Stop}
use Rattle.serve_loop.specs.{StopsIn}
use Rattle.serve_loop.proofs.Steps.{StopsIn-then, each_error}
use Rattle.takeover.specs.standby.standby_book.{followed_text}
use Rattle.takeover.proofs.takeover_loop.Pieces.{consumes_none, err_memory, followed_at_end, next_goes, next_room, none_waits, piece_stops, piece_text, read_cut, read_stops, room_at_end, room_parts}
use Rattle.takeover.proofs.takeover_loop.following.next_piece.Goals as goal

pub returns-in_err-count-clause-stops : goal.returns-in_err-count-clause-stops
returns-in_err-count-clause-stops g c = λ left held f. each_error c.from_residual.result _ (λ stop all is. read_stops _ _ _ _ _ _ _ _ f stop all is)

pub returns-in_err-count-clause-cut : goal.returns-in_err-count-clause-cut
returns-in_err-count-clause-cut g c = λ left held f e. (read_cut _ _ _ _ _ _ _ _ f (g.S.Source.left c.take.new.source) c.in_err-count.ensures.same, f.gone)

pub returns-then-count-eq0-clause-goes_on : goal.returns-then-count-eq0-clause-goes_on
returns-then-count-eq0-clause-goes_on g c = λ left held f.
    followed_at_end _ _ _ _ _ _ _ _ f (g.S.Source.left c.take.new.source) (consumes_none _ _ c.in_ok-count.count _ c.if-count-eq0.true c.in_ok-count.ensures.bytes) (c.in_ok-count.ensures.end c.if-count-eq0.true)

pub returns-then-count-eq0-clause-steady : goal.returns-then-count-eq0-clause-steady
returns-then-count-eq0-clause-steady g c = λ left held all more f s. (
  c.in_ok-count.ensures.steady s,
  room_at_end _ _ _ _ _ _ _ _ f.following (g.S.Source.left c.take.new.source) (g.K.Sink.is_steady c.args.sink.now) all more (consumes_none _ _ c.in_ok-count.count _ c.if-count-eq0.true c.in_ok-count.ensures.bytes) (c.in_ok-count.ensures.end c.if-count-eq0.true) f.told f.room,
)

pub returns-in_err-goes_on-clause-stops : goal.returns-in_err-goes_on-clause-stops
returns-in_err-goes_on-clause-stops g c = λ left held f.
    let p = err_from_is_err_and c.from_residual-in_err-goes_on.result c.from_residual-in_err-goes_on.ensures.1 in
    let t = c.take_piece.new.reading in
    let piece = take c.in_ok-count.count c.take.new.room in
    let taken = c.in_ok-count.ensures.bytes in
    let now = λ (stop : Stop). (all : List ℕ) → left ≡ Some all → StopsIn held (g.K.Sink.held c.take_piece.new.sink) (followed_text all) t.journal stop in
    let stops = piece_stops _ _ _ _ _ _ _ _ f (g.S.Source.left c.take.new.source) piece taken (g.K.Sink.held c.take_piece.new.sink) t.standby t.journal t.line.items t.begun _ (c.in_err-goes_on.ensures.stops f.bytes held f.reading) in
    subst (λ (r : Result Bool Stop). IfErr r now) (sym p.1) (subst now (sym p.2) stops)

pub returns-in_err-goes_on-clause-steady : goal.returns-in_err-goes_on-clause-steady
returns-in_err-goes_on-clause-steady g c = λ left held all more f s.
    let p = err_from_is_err_and c.from_residual-in_err-goes_on.result c.from_residual-in_err-goes_on.ensures.1 in
    let b = f.following in
    let piece = take c.in_ok-count.count c.take.new.room in
    let taken = c.in_ok-count.ensures.bytes in
    let room = none_waits (g.K.Sink.is_steady c.args.sink.now) c.args.reading.now.journal _ _ b.gone (room_parts _ _ _ _ _ _ _ _ b (g.S.Source.left c.take.new.source) piece taken (g.K.Sink.is_steady c.args.sink.now) all more f.told f.room) in
    let stop = c.in_err-goes_on.ensures.steady b.bytes held _ b.reading room in
    err_memory _ _ p.0 p.1 (p.2 ∙ stop)

pub returns-in_err-flush-clause-stops : goal.returns-in_err-flush-clause-stops
returns-in_err-flush-clause-stops g c = λ left held f.
    let p = err_from_is_err_and c.from_residual-in_err-flush.result c.from_residual-in_err-flush.ensures.1 in
    let t = c.take_piece.new.reading in
    let piece = take c.in_ok-count.count c.take.new.room in
    let taken = c.in_ok-count.ensures.bytes in
    let text = piece_text _ _ _ _ _ _ _ _ f (g.S.Source.left c.take.new.source) piece taken c.in_ok-goes_on.goes_on (g.K.Sink.held c.take_piece.new.sink) t.standby t.journal t.line.items t.begun (c.in_ok-goes_on.ensures.piece f.bytes held f.reading) in
    let now = λ (stop : Stop). (all : List ℕ) → left ≡ Some all → StopsIn held (g.K.Sink.held c.flush.new.sink) (followed_text all) c.flush.new.gather stop in
    let front = StopsIn-then _ _ _ _ _ _ c.in_err-flush.field-0.0 text c.in_err-flush.ensures.front in
    let stops = piece_stops _ _ _ _ _ _ _ _ f (g.S.Source.left c.take.new.source) piece taken (g.K.Sink.held c.flush.new.sink) t.standby c.flush.new.gather t.line.items t.begun c.in_err-flush.field-0.0 front in
    subst (λ (r : Result Bool Stop). IfErr r now) (sym p.1) (subst now (sym p.2) stops)

pub returns-in_err-flush-clause-steady : goal.returns-in_err-flush-clause-steady
returns-in_err-flush-clause-steady g c = λ left held all more f s.
    let p = err_from_is_err_and c.from_residual-in_err-flush.result c.from_residual-in_err-flush.ensures.1 in
    let b = f.following in
    let piece = take c.in_ok-count.count c.take.new.room in
    let taken = c.in_ok-count.ensures.bytes in
    let room = none_waits (g.K.Sink.is_steady c.args.sink.now) c.args.reading.now.journal _ _ b.gone (room_parts _ _ _ _ _ _ _ _ b (g.S.Source.left c.take.new.source) piece taken (g.K.Sink.is_steady c.args.sink.now) all more f.told f.room) in
    let after = c.in_ok-goes_on.ensures.steady b.bytes held _ b.reading room in
    let stop = c.in_err-flush.ensures.steady _ after in
    err_memory _ _ p.0 p.1 (p.2 ∙ stop)

pub returns-clause-goes_on : goal.returns-clause-goes_on
returns-clause-goes_on g c = λ left held f.
    let t = c.take_piece.new.reading in
    let piece = take c.in_ok-count.count c.take.new.room in
    let taken = c.in_ok-count.ensures.bytes in
    let passes = subst (Passes (g.K.Sink.held c.take_piece.new.sink) (g.K.Sink.held c.flush.new.sink) t.journal) (sym c.in_ok-flush.ensures.empty) c.in_ok-flush.ensures.all in
    next_goes _ _ _ _ _ _ _ _ f (g.S.Source.left c.take.new.source) piece taken c.in_ok-goes_on.goes_on (g.K.Sink.held c.take_piece.new.sink) (g.K.Sink.held c.flush.new.sink) t.standby t.journal c.flush.new.gather t.line.items t.begun
    (c.in_ok-goes_on.ensures.piece f.bytes held f.reading) passes c.in_ok-flush.ensures.empty c.in_ok-goes_on.ensures.read

pub returns-clause-steady : goal.returns-clause-steady
returns-clause-steady g c = λ left held all more f s.
    let b = f.following in
    let t = c.take_piece.new.reading in
    let piece = take c.in_ok-count.count c.take.new.room in
    let taken = c.in_ok-count.ensures.bytes in
    let room = none_waits (g.K.Sink.is_steady c.args.sink.now) c.args.reading.now.journal _ _ b.gone (room_parts _ _ _ _ _ _ _ _ b (g.S.Source.left c.take.new.source) piece taken (g.K.Sink.is_steady c.args.sink.now) all more f.told f.room) in
    let after = c.in_ok-goes_on.ensures.steady b.bytes held _ b.reading room in
    let fits = c.in_ok-flush.ensures.steady _ after in
    let passes = subst (Passes (g.K.Sink.held c.take_piece.new.sink) (g.K.Sink.held c.flush.new.sink) t.journal) (sym c.in_ok-flush.ensures.empty) c.in_ok-flush.ensures.all in (
      c.in_ok-count.ensures.steady s,
      next_room _ _ _ _ _ _ _ _ b (g.S.Source.left c.take.new.source) piece taken c.in_ok-goes_on.goes_on (g.K.Sink.held c.take_piece.new.sink) (g.K.Sink.held c.flush.new.sink) (g.K.Sink.is_steady c.flush.new.sink) all more t.standby t.journal c.flush.new.gather t.line.items t.begun
          (c.in_ok-goes_on.ensures.piece b.bytes held b.reading) passes c.in_ok-flush.ensures.empty f.told fits,
    )
