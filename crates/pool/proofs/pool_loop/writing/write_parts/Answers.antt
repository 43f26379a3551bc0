-- The parts of a pool's text, one after another.
use Rattle.std.proofs.Common.{ℕ, List, [], ◌++◌, ◌∙◌, Result, IfErr, length, refl, sym, ap, subst, append-nil}
use Rattle.std.proofs.lemmas.Result.{err_from_is_err_and, on_ok_weaker, IfErr-weaker}
use Rattle.channel_book.specs.{Kept}
use Rattle.trace_loop.specs.trace_book.{first_line}
use Rattle.trace_loop.specs.declared.Stop.{Stop}
use Rattle.trace_loop.specs.{StopsIn}
use Rattle.trace_loop.proofs.Writing.{unwritten, writing_begins, writing_has_room, writing_goes_on, writing_stops}
use Rattle.pool.specs.pool_loop.{all_left, closing_text, numbers_of, pooled_text, walk_text}
use Rattle.trace_loop.proofs.Stopping.{err_so, only_err, together, writing_last}
use Rattle.pool.proofs.pool_loop.Pieces.{last_part, from_events}
use Rattle.pool.proofs.pool_loop.writing.write_parts.Goals as goal

pub returns-in_err-ids-clause-front : goal.returns-in_err-ids-clause-front
returns-in_err-ids-clause-front g c =
    let held = g.K.Sink.held c.args.sink.now in
    let waits = c.args.writer.now.gather in
    let text = pooled_text c.args.routes.now c.args.pooled.now.books.items c.args.pooled.now.ledger.granted c.args.pooled.now.ledger.claims.items in
    let p = err_from_is_err_and c.from_residual.result c.from_residual.ensures.1 in
    subst (λ (r : Result (Unit {0}) Stop). IfErr r (StopsIn held held (waits ++ text) waits)) (sym p.1) (unwritten held waits text p.0)

pub returns-in_err-left-clause-front : goal.returns-in_err-left-clause-front
returns-in_err-left-clause-front g c =
    let held = g.K.Sink.held c.args.sink.now in
    let waits = c.args.writer.now.gather in
    let text = pooled_text c.args.routes.now c.args.pooled.now.books.items c.args.pooled.now.ledger.granted c.args.pooled.now.ledger.claims.items in
    let p = err_from_is_err_and c.from_residual-in_err-left.result c.from_residual-in_err-left.ensures.1 in
    subst (λ (r : Result (Unit {0}) Stop). IfErr r (StopsIn held held (waits ++ text) waits)) (sym p.1) (unwritten held waits text p.0)

pub returns-in_err-put-clause-front : goal.returns-in_err-put-clause-front
returns-in_err-put-clause-front g c =
    let p = err_from_is_err_and c.from_residual-in_err-put.result c.from_residual-in_err-put.ensures.1 in
    let routes = c.args.routes.now in
    let books = c.args.pooled.now.books.items in
    let granted = c.args.pooled.now.ledger.granted in
    let claims = c.args.pooled.now.ledger.claims.items in
    let waiting = c.args.writer.now.gather in
    let text = pooled_text routes books granted claims in
    let a = g.K.Sink.held c.args.sink.now in
    let n = g.K.Sink.faults c.args.sink.now in
    let steady = g.K.Sink.is_steady c.args.sink.now in
    let w0 = writing_begins a a n n steady steady waiting text refl refl (λ k h. h) in
    err_so c.from_residual-in_err-put.result p.0 c.in_err-put.field-0.0 (StopsIn a (g.K.Sink.held c.put.new.sink) (waiting ++ text) c.put.new.gather) p.1 p.2
    (writing_stops a (g.K.Sink.held c.args.sink.now) n (g.K.Sink.faults c.args.sink.now) steady (g.K.Sink.is_steady c.args.sink.now) (g.K.Sink.held c.put.new.sink) (waiting ++ text) waiting text first_line (from_events routes books granted claims) c.put.new.gather c.in_err-put.field-0.0 w0 refl c.in_err-put.ensures.front)

pub returns-in_err-put-clause-steady : goal.returns-in_err-put-clause-steady
returns-in_err-put-clause-steady g c = λ room h.
    let p = err_from_is_err_and c.from_residual-in_err-put.result c.from_residual-in_err-put.ensures.1 in
    let routes = c.args.routes.now in
    let books = c.args.pooled.now.books.items in
    let granted = c.args.pooled.now.ledger.granted in
    let claims = c.args.pooled.now.ledger.claims.items in
    let waiting = c.args.writer.now.gather in
    let text = pooled_text routes books granted claims in
    let a = g.K.Sink.held c.args.sink.now in
    let n = g.K.Sink.faults c.args.sink.now in
    let steady = g.K.Sink.is_steady c.args.sink.now in
    let w0 = writing_begins a a n n steady steady waiting text refl refl (λ k h. h) in
    only_err c.from_residual-in_err-put.result p.0 c.in_err-put.field-0.0 _ p.1 p.2
    (c.in_err-put.ensures.steady _ (writing_has_room a (g.K.Sink.held c.args.sink.now) n (g.K.Sink.faults c.args.sink.now) steady (g.K.Sink.is_steady c.args.sink.now) (waiting ++ text) waiting text first_line (from_events routes books granted claims) w0 refl room (together steady waiting text room h)))

pub returns-in_err-write_events-clause-front : goal.returns-in_err-write_events-clause-front
returns-in_err-write_events-clause-front g c =
    let p = err_from_is_err_and c.from_residual-in_err-write_events.result c.from_residual-in_err-write_events.ensures.1 in
    let routes = c.args.routes.now in
    let books = c.args.pooled.now.books.items in
    let granted = c.args.pooled.now.ledger.granted in
    let claims = c.args.pooled.now.ledger.claims.items in
    let waiting = c.args.writer.now.gather in
    let text = pooled_text routes books granted claims in
    let a = g.K.Sink.held c.args.sink.now in
    let n = g.K.Sink.faults c.args.sink.now in
    let steady = g.K.Sink.is_steady c.args.sink.now in
    let w0 = writing_begins a a n n steady steady waiting text refl refl (λ k h. h) in
    let w1 =
    writing_goes_on a (g.K.Sink.held c.args.sink.now) n (g.K.Sink.faults c.args.sink.now) steady (g.K.Sink.is_steady c.args.sink.now) (g.K.Sink.held c.put.new.sink) (g.K.Sink.faults c.put.new.sink) (g.K.Sink.is_steady c.put.new.sink)
    (waiting ++ text) waiting text first_line (from_events routes books granted claims) c.put.new.gather w0 refl c.in_ok-put.ensures.all c.put.ensures.cause.later c.in_ok-put.ensures.steady in
    let same = ap all_left c.deref_mut.ensures.value ∙ c.in_ok-left.ensures ∙ c.deref-2.ensures.value in
    err_so c.from_residual-in_err-write_events.result p.0 c.in_err-write_events.field-0.0 (StopsIn a (g.K.Sink.held c.write_events.new.sink) (waiting ++ text) c.write_events.new.writer.gather) p.1 p.2
    (writing_stops a (g.K.Sink.held c.put.new.sink) n (g.K.Sink.faults c.put.new.sink) steady (g.K.Sink.is_steady c.put.new.sink) (g.K.Sink.held c.write_events.new.sink) (waiting ++ text) c.put.new.gather (from_events routes books granted claims) (walk_text 1 routes (all_left c.deref_mut.result.now)) (last_part routes books granted claims) c.write_events.new.writer.gather c.in_err-write_events.field-0.0 w1 (ap (λ (bs : List Kept). walk_text 1 routes bs ++ last_part routes books granted claims) (sym same)) c.in_err-write_events.ensures.front)

pub returns-in_err-write_events-clause-steady : goal.returns-in_err-write_events-clause-steady
returns-in_err-write_events-clause-steady g c = λ room h.
    let p = err_from_is_err_and c.from_residual-in_err-write_events.result c.from_residual-in_err-write_events.ensures.1 in
    let routes = c.args.routes.now in
    let books = c.args.pooled.now.books.items in
    let granted = c.args.pooled.now.ledger.granted in
    let claims = c.args.pooled.now.ledger.claims.items in
    let waiting = c.args.writer.now.gather in
    let text = pooled_text routes books granted claims in
    let a = g.K.Sink.held c.args.sink.now in
    let n = g.K.Sink.faults c.args.sink.now in
    let steady = g.K.Sink.is_steady c.args.sink.now in
    let w0 = writing_begins a a n n steady steady waiting text refl refl (λ k h. h) in
    let w1 =
    writing_goes_on a (g.K.Sink.held c.args.sink.now) n (g.K.Sink.faults c.args.sink.now) steady (g.K.Sink.is_steady c.args.sink.now) (g.K.Sink.held c.put.new.sink) (g.K.Sink.faults c.put.new.sink) (g.K.Sink.is_steady c.put.new.sink)
    (waiting ++ text) waiting text first_line (from_events routes books granted claims) c.put.new.gather w0 refl c.in_ok-put.ensures.all c.put.ensures.cause.later c.in_ok-put.ensures.steady in
    let same = ap all_left c.deref_mut.ensures.value ∙ c.in_ok-left.ensures ∙ c.deref-2.ensures.value in
    only_err c.from_residual-in_err-write_events.result p.0 c.in_err-write_events.field-0.0 _ p.1 p.2
    (c.in_err-write_events.ensures.steady _ (writing_has_room a (g.K.Sink.held c.put.new.sink) n (g.K.Sink.faults c.put.new.sink) steady (g.K.Sink.is_steady c.put.new.sink) (waiting ++ text) c.put.new.gather (from_events routes books granted claims) (walk_text 1 routes (all_left c.deref_mut.result.now)) (last_part routes books granted claims) w1 (ap (λ (bs : List Kept). walk_text 1 routes bs ++ last_part routes books granted claims) (sym same)) room (together steady waiting text room h)))

pub returns-clause-all : goal.returns-clause-all
returns-clause-all g c =
    let routes = c.args.routes.now in
    let books = c.args.pooled.now.books.items in
    let granted = c.args.pooled.now.ledger.granted in
    let claims = c.args.pooled.now.ledger.claims.items in
    let waiting = c.args.writer.now.gather in
    let text = pooled_text routes books granted claims in
    let a = g.K.Sink.held c.args.sink.now in
    let n = g.K.Sink.faults c.args.sink.now in
    let steady = g.K.Sink.is_steady c.args.sink.now in
    let w0 = writing_begins a a n n steady steady waiting text refl refl (λ k h. h) in
    let w1 =
    writing_goes_on a (g.K.Sink.held c.args.sink.now) n (g.K.Sink.faults c.args.sink.now) steady (g.K.Sink.is_steady c.args.sink.now) (g.K.Sink.held c.put.new.sink) (g.K.Sink.faults c.put.new.sink) (g.K.Sink.is_steady c.put.new.sink)
    (waiting ++ text) waiting text first_line (from_events routes books granted claims) c.put.new.gather w0 refl c.in_ok-put.ensures.all c.put.ensures.cause.later c.in_ok-put.ensures.steady in
    let same = ap all_left c.deref_mut.ensures.value ∙ c.in_ok-left.ensures ∙ c.deref-2.ensures.value in
    let ids = c.deref-3.result.now in
    let named = c.deref-3.ensures.value ∙ c.in_ok-ids.ensures ∙ ap numbers_of c.deref.ensures.value in
    let last = closing_text (length routes) ids granted claims in
    let w2 =
    writing_goes_on a (g.K.Sink.held c.put.new.sink) n (g.K.Sink.faults c.put.new.sink) steady (g.K.Sink.is_steady c.put.new.sink) (g.K.Sink.held c.write_events.new.sink) (g.K.Sink.faults c.write_events.new.sink) (g.K.Sink.is_steady c.write_events.new.sink)
    (waiting ++ text) c.put.new.gather (from_events routes books granted claims) (walk_text 1 routes (all_left c.deref_mut.result.now)) last c.write_events.new.writer.gather w1
    (ap (λ (bs : List Kept). walk_text 1 routes bs ++ last_part routes books granted claims) (sym same) ∙ ap (λ (ns : List ℕ). walk_text 1 routes (all_left c.deref_mut.result.now) ++ closing_text (length routes) ns granted claims) (sym named))
    c.in_ok-write_events.ensures.all c.write_events.ensures.cause.later c.in_ok-write_events.ensures.steady in
    on_ok_weaker c.write_closing.result (writing_last a (g.K.Sink.held c.write_events.new.sink) (g.K.Sink.held c.write_closing.new.sink) n (g.K.Sink.faults c.write_events.new.sink) steady (g.K.Sink.is_steady c.write_events.new.sink) (waiting ++ text) c.write_events.new.writer.gather last c.write_closing.new.writer.gather w2) c.write_closing.ensures.all

pub returns-clause-front : goal.returns-clause-front
returns-clause-front g c =
    let routes = c.args.routes.now in
    let books = c.args.pooled.now.books.items in
    let granted = c.args.pooled.now.ledger.granted in
    let claims = c.args.pooled.now.ledger.claims.items in
    let waiting = c.args.writer.now.gather in
    let text = pooled_text routes books granted claims in
    let a = g.K.Sink.held c.args.sink.now in
    let n = g.K.Sink.faults c.args.sink.now in
    let steady = g.K.Sink.is_steady c.args.sink.now in
    let w0 = writing_begins a a n n steady steady waiting text refl refl (λ k h. h) in
    let w1 =
    writing_goes_on a (g.K.Sink.held c.args.sink.now) n (g.K.Sink.faults c.args.sink.now) steady (g.K.Sink.is_steady c.args.sink.now) (g.K.Sink.held c.put.new.sink) (g.K.Sink.faults c.put.new.sink) (g.K.Sink.is_steady c.put.new.sink)
    (waiting ++ text) waiting text first_line (from_events routes books granted claims) c.put.new.gather w0 refl c.in_ok-put.ensures.all c.put.ensures.cause.later c.in_ok-put.ensures.steady in
    let same = ap all_left c.deref_mut.ensures.value ∙ c.in_ok-left.ensures ∙ c.deref-2.ensures.value in
    let ids = c.deref-3.result.now in
    let named = c.deref-3.ensures.value ∙ c.in_ok-ids.ensures ∙ ap numbers_of c.deref.ensures.value in
    let last = closing_text (length routes) ids granted claims in
    let w2 =
    writing_goes_on a (g.K.Sink.held c.put.new.sink) n (g.K.Sink.faults c.put.new.sink) steady (g.K.Sink.is_steady c.put.new.sink) (g.K.Sink.held c.write_events.new.sink) (g.K.Sink.faults c.write_events.new.sink) (g.K.Sink.is_steady c.write_events.new.sink)
    (waiting ++ text) c.put.new.gather (from_events routes books granted claims) (walk_text 1 routes (all_left c.deref_mut.result.now)) last c.write_events.new.writer.gather w1
    (ap (λ (bs : List Kept). walk_text 1 routes bs ++ last_part routes books granted claims) (sym same) ∙ ap (λ (ns : List ℕ). walk_text 1 routes (all_left c.deref_mut.result.now) ++ closing_text (length routes) ns granted claims) (sym named))
    c.in_ok-write_events.ensures.all c.write_events.ensures.cause.later c.in_ok-write_events.ensures.steady in
    IfErr-weaker c.write_closing.result _ _ (λ stop. writing_stops a (g.K.Sink.held c.write_events.new.sink) n (g.K.Sink.faults c.write_events.new.sink) steady (g.K.Sink.is_steady c.write_events.new.sink) (g.K.Sink.held c.write_closing.new.sink) (waiting ++ text) c.write_events.new.writer.gather last last [] c.write_closing.new.writer.gather stop w2 (sym (append-nil last))) c.write_closing.ensures.front

pub returns-clause-steady : goal.returns-clause-steady
returns-clause-steady g c = λ room h.
    let routes = c.args.routes.now in
    let books = c.args.pooled.now.books.items in
    let granted = c.args.pooled.now.ledger.granted in
    let claims = c.args.pooled.now.ledger.claims.items in
    let waiting = c.args.writer.now.gather in
    let text = pooled_text routes books granted claims in
    let a = g.K.Sink.held c.args.sink.now in
    let n = g.K.Sink.faults c.args.sink.now in
    let steady = g.K.Sink.is_steady c.args.sink.now in
    let w0 = writing_begins a a n n steady steady waiting text refl refl (λ k h. h) in
    let w1 =
    writing_goes_on a (g.K.Sink.held c.args.sink.now) n (g.K.Sink.faults c.args.sink.now) steady (g.K.Sink.is_steady c.args.sink.now) (g.K.Sink.held c.put.new.sink) (g.K.Sink.faults c.put.new.sink) (g.K.Sink.is_steady c.put.new.sink)
    (waiting ++ text) waiting text first_line (from_events routes books granted claims) c.put.new.gather w0 refl c.in_ok-put.ensures.all c.put.ensures.cause.later c.in_ok-put.ensures.steady in
    let same = ap all_left c.deref_mut.ensures.value ∙ c.in_ok-left.ensures ∙ c.deref-2.ensures.value in
    let ids = c.deref-3.result.now in
    let named = c.deref-3.ensures.value ∙ c.in_ok-ids.ensures ∙ ap numbers_of c.deref.ensures.value in
    let last = closing_text (length routes) ids granted claims in
    let w2 =
    writing_goes_on a (g.K.Sink.held c.put.new.sink) n (g.K.Sink.faults c.put.new.sink) steady (g.K.Sink.is_steady c.put.new.sink) (g.K.Sink.held c.write_events.new.sink) (g.K.Sink.faults c.write_events.new.sink) (g.K.Sink.is_steady c.write_events.new.sink)
    (waiting ++ text) c.put.new.gather (from_events routes books granted claims) (walk_text 1 routes (all_left c.deref_mut.result.now)) last c.write_events.new.writer.gather w1
    (ap (λ (bs : List Kept). walk_text 1 routes bs ++ last_part routes books granted claims) (sym same) ∙ ap (λ (ns : List ℕ). walk_text 1 routes (all_left c.deref_mut.result.now) ++ closing_text (length routes) ns granted claims) (sym named))
    c.in_ok-write_events.ensures.all c.write_events.ensures.cause.later c.in_ok-write_events.ensures.steady in
    c.write_closing.ensures.steady room (w2.steadily room (together steady waiting text room h))
