use Rattle.std.proofs.Common.{rules, ◌+◌, [], ◌++◌, Bool, length, take, Result, IfErr, refl, sym, subst, ◌∙◌, arith}
use Rattle.std.proofs.lemmas.Result.{err_from_is_err_and}
use Rattle.trace_loop.specs.declared.Stop.{Stop}
use Rattle.serve_loop.specs.{OnlyMemoryStops, StopsIn}
use Rattle.takeover.specs.standby.{first_part}
use Rattle.takeover.proofs.standby.Pieces.{first_some}
use Rattle.takeover.specs.standby.standby_book.{followed_text}
use Rattle.takeover.specs.takeover_loop.{IsReading}
use Rattle.takeover.proofs.takeover_loop.Parts.{all_taken, none_of, none_taken, part_ends, part_fits, part_leaves, part_needs, part_next, part_over_room, part_stops, room_begins, room_ends, some_of}
use Rattle.takeover.proofs.takeover_loop.Within.{some_is}
use Rattle.takeover.proofs.takeover_loop.following.take_piece.Goals as goal

pub parts-init : goal.parts-init
parts-init g c =
    let r = c.args.reading.now in
    record {
      within = omega arith;
      unended = c.requires.unended;
      read = c.requires.read;
      later = omega arith;
      reading = λ bytes held i. subst (IsReading held (g.K.Sink.held c.args.sink.now) r.standby r.journal r.line.items r.begun) (sym (none_taken bytes c.args.piece.now)) i;
      steady = λ bytes held room i h. room_begins (g.K.Sink.is_steady c.args.sink.now) r.journal bytes c.args.piece.now room h;
    }

pub returns-in_err-count-clause-stops : goal.returns-in_err-count-clause-stops
returns-in_err-count-clause-stops g c = λ bytes held i.
    let p = err_from_is_err_and c.from_residual.result c.from_residual.ensures.1 in
    let rest = c.split_at.result.1.now in
    let r = c.parts.invariant.reading bytes held i in
    let now = StopsIn held (g.K.Sink.held c.take_part.new.sink) (followed_text (bytes ++ c.args.piece.now)) c.take_part.new.reading.journal in
    let stops = part_stops bytes c.args.piece.now rest c.parts.at (length (first_part rest)) c.parts.invariant.within c.split_at.ensures.back refl held _ _ _ (c.in_err-count.ensures.stops (bytes ++ take c.parts.at c.args.piece.now) held r) in
    subst (λ (x : Result Bool Stop). IfErr x now) (sym p.1) (subst now (sym p.2) stops)

pub returns-in_err-count-clause-steady : goal.returns-in_err-count-clause-steady
returns-in_err-count-clause-steady g c = λ bytes held room i h.
    let p = err_from_is_err_and c.from_residual.result c.from_residual.ensures.1 in
    let rest = c.split_at.result.1.now in
    let r = c.parts.invariant.reading bytes held i in
    let fits = part_needs bytes c.args.piece.now rest c.parts.at (length (first_part rest)) c.parts.invariant.within c.split_at.ensures.back refl (g.K.Sink.is_steady c.parts.sink) c.parts.reading.journal room (c.parts.invariant.steady bytes held room i h) in
    let stop = c.in_err-count.ensures.steady (bytes ++ take c.parts.at c.args.piece.now) held _ r fits in
    subst (λ (x : Result Bool Stop). OnlyMemoryStops x (g.K.Sink.is_steady c.take_part.new.sink (length c.take_part.new.reading.journal + room))) (sym p.1) (p.2 ∙ stop)

-- what an answer is
pub overflow_add-at : goal.overflow_add-at
overflow_add-at g c =
    let rest = c.split_at.result.1.now in
    let fits = part_fits [] c.args.piece.now rest c.parts.at c.in-Some.count c.parts.invariant.within c.split_at.ensures.back (some_is _ c.in-Some.count _ c.in-Some.is c.in_ok-count.ensures.count).0 in
    search (rules, fits)

pub parts-smaller : goal.parts-smaller
parts-smaller g c =
    let rest = c.split_at.result.1.now in
    let count = (some_is _ c.in-Some.count _ c.in-Some.is c.in_ok-count.ensures.count).0 in
    let fits = part_fits [] c.args.piece.now rest c.parts.at c.in-Some.count c.parts.invariant.within c.split_at.ensures.back count in
    let some = first_some rest (search rules) in
    omega (arith, fits, some, count)

pub returns-in-None-clause-piece : goal.returns-in-None-clause-piece
returns-in-None-clause-piece g c = λ bytes held i.
    let rest = c.split_at.result.1.now in
    let n = c.take_part.new.reading in
    let r = c.parts.invariant.reading bytes held i in
    let over = none_of _ _ _ c.in-None.is (c.in_ok-count.ensures.part (bytes ++ take c.parts.at c.args.piece.now) held r) in
    part_ends bytes c.args.piece.now rest c.parts.at (length (first_part rest)) c.parts.invariant.within c.split_at.ensures.back refl held (g.K.Sink.held c.take_part.new.sink) n.standby n.journal n.begun over

pub returns-in-None-clause-steady : goal.returns-in-None-clause-steady
returns-in-None-clause-steady g c = λ bytes held room i h.
    let rest = c.split_at.result.1.now in
    let r = c.parts.invariant.reading bytes held i in
    let over = none_of _ _ _ c.in-None.is (c.in_ok-count.ensures.part (bytes ++ take c.parts.at c.args.piece.now) held r) in
    let fits = part_needs bytes c.args.piece.now rest c.parts.at (length (first_part rest)) c.parts.invariant.within c.split_at.ensures.back refl (g.K.Sink.is_steady c.parts.sink) c.parts.reading.journal room (c.parts.invariant.steady bytes held room i h) in
    let after = c.in_ok-count.ensures.steady (bytes ++ take c.parts.at c.args.piece.now) held _ r fits in
    part_over_room bytes c.args.piece.now rest c.parts.at (length (first_part rest)) c.parts.invariant.within c.split_at.ensures.back refl (g.K.Sink.is_steady c.take_part.new.sink) c.take_part.new.reading.journal room over.1 after

pub parts-preserved : goal.parts-preserved
parts-preserved g c =
    let piece = c.args.piece.now in
    let rest = c.split_at.result.1.now in
    let n = c.take_part.new.reading in
    let known = some_is _ c.in-Some.count _ c.in-Some.is c.in_ok-count.ensures.count in
    let before = c.parts.invariant.later in
    let now = c.take_part.ensures.cause.later in
    record {
      within = part_fits [] piece rest c.parts.at c.in-Some.count c.parts.invariant.within c.split_at.ensures.back known.0;
      unended = known.1;
      read = c.in_ok-count.ensures.read;
      later = omega (arith, before, now);
      reading = λ bytes held i.
          let r = c.parts.invariant.reading bytes held i in
          subst (IsReading held (g.K.Sink.held c.take_part.new.sink) n.standby n.journal n.line.items n.begun) (part_next bytes piece rest c.parts.at c.in-Some.count c.parts.invariant.within c.split_at.ensures.back known.0)
          (some_of _ c.in-Some.count _ _ c.in-Some.is (c.in_ok-count.ensures.part (bytes ++ take c.parts.at piece) held r));
      steady = λ bytes held room i h.
          let r = c.parts.invariant.reading bytes held i in
          let fits = part_needs bytes piece rest c.parts.at c.in-Some.count c.parts.invariant.within c.split_at.ensures.back known.0 (g.K.Sink.is_steady c.parts.sink) c.parts.reading.journal room (c.parts.invariant.steady bytes held room i h) in
          part_leaves bytes piece rest c.parts.at c.in-Some.count c.parts.invariant.within c.split_at.ensures.back known.0 (g.K.Sink.is_steady c.take_part.new.sink) n.journal room (c.in_ok-count.ensures.steady (bytes ++ take c.parts.at piece) held _ r fits);
    }

pub returns-clause-piece : goal.returns-clause-piece
returns-clause-piece g c = λ bytes held i.
    let r = c.parts.reading in
    subst (IsReading held (g.K.Sink.held c.parts.sink) r.standby r.journal r.line.items r.begun) (all_taken bytes c.args.piece.now c.parts.at c.parts-test.false) (c.parts.invariant.reading bytes held i)

pub returns-clause-steady : goal.returns-clause-steady
returns-clause-steady g c = λ bytes held room i h.
    room_ends (g.K.Sink.is_steady c.parts.sink) c.parts.reading.journal bytes c.args.piece.now c.parts.at room c.parts-test.false (c.parts.invariant.steady bytes held room i h)
