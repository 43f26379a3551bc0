use Rattle.std.proofs.Common.{◌≡◌, ℕ, ◌+◌, List, [], ◌++◌, length, ap, subst, arith}
use Rattle.std.proofs.lemmas.Result.{err_from_is_err_and}
use Rattle.line_io.specs.Passes.{Passes}
use Rattle.line_io.proofs.Passing.{Passes-none, Passes-then}
use Rattle.trace_loop.specs.{StopsIn}
use Rattle.pool.specs.pool_loop.{pooled_text}
use Rattle.trace_loop.proofs.Stopping.{only_err, stops_front}
use Rattle.trace_loop.proofs.Reading.{passes_whole}
use Rattle.pool.proofs.pool_loop.writing.write_pooled.Goals as goal

pub returns-in_err-writer-clause-front : goal.returns-in_err-writer-clause-front
returns-in_err-writer-clause-front g c =
    let text = pooled_text c.args.routes.now c.args.pooled.now.books.items c.args.pooled.now.ledger.granted c.args.pooled.now.ledger.claims.items in
    (text, Passes-none (g.K.Sink.held c.args.sink.now) text)

pub returns-in_err-write_parts-clause-front : goal.returns-in_err-write_parts-clause-front
returns-in_err-write_parts-clause-front g c =
    let text = pooled_text c.args.routes.now c.args.pooled.now.books.items c.args.pooled.now.ledger.granted c.args.pooled.now.ledger.claims.items in
    let a = g.K.Sink.held c.args.sink.now in
    let b = g.K.Sink.held c.write_parts.new.sink in
    let waits = c.write_parts.new.writer.gather in
    let stop = c.in_err-write_parts.field-0.0 in
    stops_front a b text waits stop (subst (λ (l : List ℕ). StopsIn a b (l ++ text) waits stop) c.in_ok-writer.ensures c.in_err-write_parts.ensures.front)

pub returns-in_err-write_parts-clause-steady : goal.returns-in_err-write_parts-clause-steady
returns-in_err-write_parts-clause-steady g c = λ h.
    let text = pooled_text c.args.routes.now c.args.pooled.now.books.items c.args.pooled.now.ledger.granted c.args.pooled.now.ledger.claims.items in
    let none : length c.in_ok-writer.writer.gather ≡ 0 = ap length c.in_ok-writer.ensures in
    let room : length text ≡ length c.in_ok-writer.writer.gather + length text + 0 = omega (arith, none) in
    let p = err_from_is_err_and c.from_residual-in_err-write_parts.result c.from_residual-in_err-write_parts.ensures.1 in
    only_err c.from_residual-in_err-write_parts.result p.0 c.in_err-write_parts.field-0.0 _ p.1 p.2 (c.in_err-write_parts.ensures.steady 0 (subst (g.K.Sink.is_steady c.args.sink.now) room h))

pub returns-in_err-flush-clause-front : goal.returns-in_err-flush-clause-front
returns-in_err-flush-clause-front g c =
    let text = pooled_text c.args.routes.now c.args.pooled.now.books.items c.args.pooled.now.ledger.granted c.args.pooled.now.ledger.claims.items in
    let a = g.K.Sink.held c.args.sink.now in
    let b = g.K.Sink.held c.write_parts.new.sink in
    let waits = c.write_parts.new.writer.gather in
    let p = c.flush.ensures.prefix in
    (p.0, Passes-then a b (g.K.Sink.held c.flush.new.sink) text waits p.0 (subst (λ (l : List ℕ). Passes a b (l ++ text) waits) c.in_ok-writer.ensures c.in_ok-write_parts.ensures.all) p.1)

pub returns-in_err-flush-clause-steady : goal.returns-in_err-flush-clause-steady
returns-in_err-flush-clause-steady g c = λ h.
    let text = pooled_text c.args.routes.now c.args.pooled.now.books.items c.args.pooled.now.ledger.granted c.args.pooled.now.ledger.claims.items in
    let none : length c.in_ok-writer.writer.gather ≡ 0 = ap length c.in_ok-writer.ensures in
    let room : length text ≡ length c.in_ok-writer.writer.gather + length text + 0 = omega (arith, none) in
    let p = err_from_is_err_and c.from_residual-in_err-flush.result c.from_residual-in_err-flush.ensures.1 in
    let waits = c.in_ok-write_parts.ensures.steady 0 (subst (g.K.Sink.is_steady c.args.sink.now) room h) in
    only_err c.from_residual-in_err-flush.result p.0 c.in_err-flush.field-0.0 _ p.1 p.2 (c.in_err-flush.ensures.steady 0 waits)

pub returns-clause-front : goal.returns-clause-front
returns-clause-front g c =
    let text = pooled_text c.args.routes.now c.args.pooled.now.books.items c.args.pooled.now.ledger.granted c.args.pooled.now.ledger.claims.items in
    let a = g.K.Sink.held c.args.sink.now in
    let b = g.K.Sink.held c.write_parts.new.sink in
    let waits = c.write_parts.new.writer.gather in
    ([], Passes-then a b (g.K.Sink.held c.flush.new.sink) text waits [] (subst (λ (l : List ℕ). Passes a b (l ++ text) waits) c.in_ok-writer.ensures c.in_ok-write_parts.ensures.all) c.in_ok-flush.ensures.all)

pub returns-clause-text : goal.returns-clause-text
returns-clause-text g c =
    let text = pooled_text c.args.routes.now c.args.pooled.now.books.items c.args.pooled.now.ledger.granted c.args.pooled.now.ledger.claims.items in
    let a = g.K.Sink.held c.args.sink.now in
    let b = g.K.Sink.held c.write_parts.new.sink in
    let waits = c.write_parts.new.writer.gather in
    passes_whole a (g.K.Sink.held c.flush.new.sink) text
    (Passes-then a b (g.K.Sink.held c.flush.new.sink) text waits [] (subst (λ (l : List ℕ). Passes a b (l ++ text) waits) c.in_ok-writer.ensures c.in_ok-write_parts.ensures.all) c.in_ok-flush.ensures.all)
