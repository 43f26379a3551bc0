-- The parts of a history's text, one after another.
use Rattle.std.proofs.Common.{[], ◌++◌, length, codes, refl, sym, append-nil}
use Rattle.std.proofs.lemmas.Result.{err_from_is_err_and, on_ok_weaker, IfErr-weaker}
use Rattle.trace_loop.specs.{StopsIn}
use Rattle.trace_loop.proofs.Writing.{writing_begins, writing_has_room, writing_goes_on, writing_stops}
use Rattle.trace_loop.specs.trace_book.trace_serving.{done}
use Rattle.threads_loop.specs.declared.writing.Part.TheVariants.{Trace, Book}
use Rattle.threads_loop.specs.{part_text, written_text}
use Rattle.trace_loop.proofs.Stopping.{err_so, only_err, together, writing_last}
use Rattle.threads_loop.proofs.Pieces.{from_book, from_end, from_trace}
use Rattle.threads_loop.proofs.writing.write_parts.Goals as goal

pub returns-in_err-put-clause-front : goal.returns-in_err-put-clause-front
returns-in_err-put-clause-front g c =
    let p = err_from_is_err_and c.from_residual.result c.from_residual.ensures.1 in
    let s = c.args.config.now in
    let entries = c.args.entries.now in
    let waiting = c.args.writer.now.gather in
    let text = written_text s c.args.head.now entries in
    let a = g.K.Sink.held c.args.sink.now in
    let n = g.K.Sink.faults c.args.sink.now in
    let steady = g.K.Sink.is_steady c.args.sink.now in
    let w0 = writing_begins a a n n steady steady waiting text refl refl (λ k h. h) in
    err_so c.from_residual.result p.0 c.in_err-put.field-0.0 (StopsIn a (g.K.Sink.held c.put.new.sink) (waiting ++ text) c.put.new.gather) p.1 p.2
    (writing_stops a (g.K.Sink.held c.args.sink.now) n (g.K.Sink.faults c.args.sink.now) steady (g.K.Sink.is_steady c.args.sink.now) (g.K.Sink.held c.put.new.sink) (waiting ++ text) waiting text c.args.head.now (from_trace s entries) c.put.new.gather c.in_err-put.field-0.0 w0 refl c.in_err-put.ensures.front)

pub returns-in_err-put-clause-steady : goal.returns-in_err-put-clause-steady
returns-in_err-put-clause-steady g c = λ room h.
    let p = err_from_is_err_and c.from_residual.result c.from_residual.ensures.1 in
    let s = c.args.config.now in
    let entries = c.args.entries.now in
    let waiting = c.args.writer.now.gather in
    let text = written_text s c.args.head.now entries in
    let a = g.K.Sink.held c.args.sink.now in
    let n = g.K.Sink.faults c.args.sink.now in
    let steady = g.K.Sink.is_steady c.args.sink.now in
    let w0 = writing_begins a a n n steady steady waiting text refl refl (λ k h. h) in
    only_err c.from_residual.result p.0 c.in_err-put.field-0.0 _ p.1 p.2
    (c.in_err-put.ensures.steady _ (writing_has_room a (g.K.Sink.held c.args.sink.now) n (g.K.Sink.faults c.args.sink.now) steady (g.K.Sink.is_steady c.args.sink.now) (waiting ++ text) waiting text c.args.head.now (from_trace s entries) w0 refl room (together steady waiting text room h)))

pub returns-in_err-write_part-clause-front : goal.returns-in_err-write_part-clause-front
returns-in_err-write_part-clause-front g c =
    let p = err_from_is_err_and c.from_residual-in_err-write_part.result c.from_residual-in_err-write_part.ensures.1 in
    let s = c.args.config.now in
    let entries = c.args.entries.now in
    let waiting = c.args.writer.now.gather in
    let text = written_text s c.args.head.now entries in
    let a = g.K.Sink.held c.args.sink.now in
    let n = g.K.Sink.faults c.args.sink.now in
    let steady = g.K.Sink.is_steady c.args.sink.now in
    let w0 = writing_begins a a n n steady steady waiting text refl refl (λ k h. h) in
    let w1 =
    writing_goes_on a (g.K.Sink.held c.args.sink.now) n (g.K.Sink.faults c.args.sink.now) steady (g.K.Sink.is_steady c.args.sink.now) (g.K.Sink.held c.put.new.sink) (g.K.Sink.faults c.put.new.sink) (g.K.Sink.is_steady c.put.new.sink)
    (waiting ++ text) waiting text c.args.head.now (from_trace s entries) c.put.new.gather w0 refl c.in_ok-put.ensures.all c.put.ensures.cause.later c.in_ok-put.ensures.steady in
    err_so c.from_residual-in_err-write_part.result p.0 c.in_err-write_part.field-0.0 (StopsIn a (g.K.Sink.held c.write_part.new.sink) (waiting ++ text) c.write_part.new.writer.gather) p.1 p.2
    (writing_stops a (g.K.Sink.held c.put.new.sink) n (g.K.Sink.faults c.put.new.sink) steady (g.K.Sink.is_steady c.put.new.sink) (g.K.Sink.held c.write_part.new.sink) (waiting ++ text) c.put.new.gather (from_trace s entries) (part_text s Trace 1 entries) (from_end s entries) c.write_part.new.writer.gather c.in_err-write_part.field-0.0 w1 refl c.in_err-write_part.ensures.front)

pub returns-in_err-write_part-clause-steady : goal.returns-in_err-write_part-clause-steady
returns-in_err-write_part-clause-steady g c = λ room h.
    let p = err_from_is_err_and c.from_residual-in_err-write_part.result c.from_residual-in_err-write_part.ensures.1 in
    let s = c.args.config.now in
    let entries = c.args.entries.now in
    let waiting = c.args.writer.now.gather in
    let text = written_text s c.args.head.now entries in
    let a = g.K.Sink.held c.args.sink.now in
    let n = g.K.Sink.faults c.args.sink.now in
    let steady = g.K.Sink.is_steady c.args.sink.now in
    let w0 = writing_begins a a n n steady steady waiting text refl refl (λ k h. h) in
    let w1 =
    writing_goes_on a (g.K.Sink.held c.args.sink.now) n (g.K.Sink.faults c.args.sink.now) steady (g.K.Sink.is_steady c.args.sink.now) (g.K.Sink.held c.put.new.sink) (g.K.Sink.faults c.put.new.sink) (g.K.Sink.is_steady c.put.new.sink)
    (waiting ++ text) waiting text c.args.head.now (from_trace s entries) c.put.new.gather w0 refl c.in_ok-put.ensures.all c.put.ensures.cause.later c.in_ok-put.ensures.steady in
    only_err c.from_residual-in_err-write_part.result p.0 c.in_err-write_part.field-0.0 _ p.1 p.2
    (c.in_err-write_part.ensures.steady _ (writing_has_room a (g.K.Sink.held c.put.new.sink) n (g.K.Sink.faults c.put.new.sink) steady (g.K.Sink.is_steady c.put.new.sink) (waiting ++ text) c.put.new.gather (from_trace s entries) (part_text s Trace 1 entries) (from_end s entries) w1 refl room (together steady waiting text room h)))

pub returns-in_err-put-2-clause-front : goal.returns-in_err-put-2-clause-front
returns-in_err-put-2-clause-front g c =
    let p = err_from_is_err_and c.from_residual-in_err-put-2.result c.from_residual-in_err-put-2.ensures.1 in
    let s = c.args.config.now in
    let entries = c.args.entries.now in
    let waiting = c.args.writer.now.gather in
    let text = written_text s c.args.head.now entries in
    let a = g.K.Sink.held c.args.sink.now in
    let n = g.K.Sink.faults c.args.sink.now in
    let steady = g.K.Sink.is_steady c.args.sink.now in
    let w0 = writing_begins a a n n steady steady waiting text refl refl (λ k h. h) in
    let w1 =
    writing_goes_on a (g.K.Sink.held c.args.sink.now) n (g.K.Sink.faults c.args.sink.now) steady (g.K.Sink.is_steady c.args.sink.now) (g.K.Sink.held c.put.new.sink) (g.K.Sink.faults c.put.new.sink) (g.K.Sink.is_steady c.put.new.sink)
    (waiting ++ text) waiting text c.args.head.now (from_trace s entries) c.put.new.gather w0 refl c.in_ok-put.ensures.all c.put.ensures.cause.later c.in_ok-put.ensures.steady in
    let w2 =
    writing_goes_on a (g.K.Sink.held c.put.new.sink) n (g.K.Sink.faults c.put.new.sink) steady (g.K.Sink.is_steady c.put.new.sink) (g.K.Sink.held c.write_part.new.sink) (g.K.Sink.faults c.write_part.new.sink) (g.K.Sink.is_steady c.write_part.new.sink)
    (waiting ++ text) c.put.new.gather (from_trace s entries) (part_text s Trace 1 entries) (from_end s entries) c.write_part.new.writer.gather w1 refl c.in_ok-write_part.ensures.all c.write_part.ensures.cause.later c.in_ok-write_part.ensures.steady in
    err_so c.from_residual-in_err-put-2.result p.0 c.in_err-put-2.field-0.0 (StopsIn a (g.K.Sink.held c.put-2.new.sink) (waiting ++ text) c.put-2.new.gather) p.1 p.2
    (writing_stops a (g.K.Sink.held c.write_part.new.sink) n (g.K.Sink.faults c.write_part.new.sink) steady (g.K.Sink.is_steady c.write_part.new.sink) (g.K.Sink.held c.put-2.new.sink) (waiting ++ text) c.write_part.new.writer.gather (from_end s entries) (codes "end\nrams-book 1\n") (from_book s entries) c.put-2.new.gather c.in_err-put-2.field-0.0 w2 refl c.in_err-put-2.ensures.front)

pub returns-in_err-put-2-clause-steady : goal.returns-in_err-put-2-clause-steady
returns-in_err-put-2-clause-steady g c = λ room h.
    let p = err_from_is_err_and c.from_residual-in_err-put-2.result c.from_residual-in_err-put-2.ensures.1 in
    let s = c.args.config.now in
    let entries = c.args.entries.now in
    let waiting = c.args.writer.now.gather in
    let text = written_text s c.args.head.now entries in
    let a = g.K.Sink.held c.args.sink.now in
    let n = g.K.Sink.faults c.args.sink.now in
    let steady = g.K.Sink.is_steady c.args.sink.now in
    let w0 = writing_begins a a n n steady steady waiting text refl refl (λ k h. h) in
    let w1 =
    writing_goes_on a (g.K.Sink.held c.args.sink.now) n (g.K.Sink.faults c.args.sink.now) steady (g.K.Sink.is_steady c.args.sink.now) (g.K.Sink.held c.put.new.sink) (g.K.Sink.faults c.put.new.sink) (g.K.Sink.is_steady c.put.new.sink)
    (waiting ++ text) waiting text c.args.head.now (from_trace s entries) c.put.new.gather w0 refl c.in_ok-put.ensures.all c.put.ensures.cause.later c.in_ok-put.ensures.steady in
    let w2 =
    writing_goes_on a (g.K.Sink.held c.put.new.sink) n (g.K.Sink.faults c.put.new.sink) steady (g.K.Sink.is_steady c.put.new.sink) (g.K.Sink.held c.write_part.new.sink) (g.K.Sink.faults c.write_part.new.sink) (g.K.Sink.is_steady c.write_part.new.sink)
    (waiting ++ text) c.put.new.gather (from_trace s entries) (part_text s Trace 1 entries) (from_end s entries) c.write_part.new.writer.gather w1 refl c.in_ok-write_part.ensures.all c.write_part.ensures.cause.later c.in_ok-write_part.ensures.steady in
    only_err c.from_residual-in_err-put-2.result p.0 c.in_err-put-2.field-0.0 _ p.1 p.2
    (c.in_err-put-2.ensures.steady _ (writing_has_room a (g.K.Sink.held c.write_part.new.sink) n (g.K.Sink.faults c.write_part.new.sink) steady (g.K.Sink.is_steady c.write_part.new.sink) (waiting ++ text) c.write_part.new.writer.gather (from_end s entries) (codes "end\nrams-book 1\n") (from_book s entries) w2 refl room (together steady waiting text room h)))

pub returns-in_err-write_part-2-clause-front : goal.returns-in_err-write_part-2-clause-front
returns-in_err-write_part-2-clause-front g c =
    let p = err_from_is_err_and c.from_residual-in_err-write_part-2.result c.from_residual-in_err-write_part-2.ensures.1 in
    let s = c.args.config.now in
    let entries = c.args.entries.now in
    let waiting = c.args.writer.now.gather in
    let text = written_text s c.args.head.now entries in
    let a = g.K.Sink.held c.args.sink.now in
    let n = g.K.Sink.faults c.args.sink.now in
    let steady = g.K.Sink.is_steady c.args.sink.now in
    let w0 = writing_begins a a n n steady steady waiting text refl refl (λ k h. h) in
    let w1 =
    writing_goes_on a (g.K.Sink.held c.args.sink.now) n (g.K.Sink.faults c.args.sink.now) steady (g.K.Sink.is_steady c.args.sink.now) (g.K.Sink.held c.put.new.sink) (g.K.Sink.faults c.put.new.sink) (g.K.Sink.is_steady c.put.new.sink)
    (waiting ++ text) waiting text c.args.head.now (from_trace s entries) c.put.new.gather w0 refl c.in_ok-put.ensures.all c.put.ensures.cause.later c.in_ok-put.ensures.steady in
    let w2 =
    writing_goes_on a (g.K.Sink.held c.put.new.sink) n (g.K.Sink.faults c.put.new.sink) steady (g.K.Sink.is_steady c.put.new.sink) (g.K.Sink.held c.write_part.new.sink) (g.K.Sink.faults c.write_part.new.sink) (g.K.Sink.is_steady c.write_part.new.sink)
    (waiting ++ text) c.put.new.gather (from_trace s entries) (part_text s Trace 1 entries) (from_end s entries) c.write_part.new.writer.gather w1 refl c.in_ok-write_part.ensures.all c.write_part.ensures.cause.later c.in_ok-write_part.ensures.steady in
    let w3 =
    writing_goes_on a (g.K.Sink.held c.write_part.new.sink) n (g.K.Sink.faults c.write_part.new.sink) steady (g.K.Sink.is_steady c.write_part.new.sink) (g.K.Sink.held c.put-2.new.sink) (g.K.Sink.faults c.put-2.new.sink) (g.K.Sink.is_steady c.put-2.new.sink)
    (waiting ++ text) c.write_part.new.writer.gather (from_end s entries) (codes "end\nrams-book 1\n") (from_book s entries) c.put-2.new.gather w2 refl c.in_ok-put-2.ensures.all c.put-2.ensures.cause.later c.in_ok-put-2.ensures.steady in
    err_so c.from_residual-in_err-write_part-2.result p.0 c.in_err-write_part-2.field-0.0 (StopsIn a (g.K.Sink.held c.write_part-2.new.sink) (waiting ++ text) c.write_part-2.new.writer.gather) p.1 p.2
    (writing_stops a (g.K.Sink.held c.put-2.new.sink) n (g.K.Sink.faults c.put-2.new.sink) steady (g.K.Sink.is_steady c.put-2.new.sink) (g.K.Sink.held c.write_part-2.new.sink) (waiting ++ text) c.put-2.new.gather (from_book s entries) (part_text s Book 1 entries) (done (length entries)).text c.write_part-2.new.writer.gather c.in_err-write_part-2.field-0.0 w3 refl c.in_err-write_part-2.ensures.front)

pub returns-in_err-write_part-2-clause-steady : goal.returns-in_err-write_part-2-clause-steady
returns-in_err-write_part-2-clause-steady g c = λ room h.
    let p = err_from_is_err_and c.from_residual-in_err-write_part-2.result c.from_residual-in_err-write_part-2.ensures.1 in
    let s = c.args.config.now in
    let entries = c.args.entries.now in
    let waiting = c.args.writer.now.gather in
    let text = written_text s c.args.head.now entries in
    let a = g.K.Sink.held c.args.sink.now in
    let n = g.K.Sink.faults c.args.sink.now in
    let steady = g.K.Sink.is_steady c.args.sink.now in
    let w0 = writing_begins a a n n steady steady waiting text refl refl (λ k h. h) in
    let w1 =
    writing_goes_on a (g.K.Sink.held c.args.sink.now) n (g.K.Sink.faults c.args.sink.now) steady (g.K.Sink.is_steady c.args.sink.now) (g.K.Sink.held c.put.new.sink) (g.K.Sink.faults c.put.new.sink) (g.K.Sink.is_steady c.put.new.sink)
    (waiting ++ text) waiting text c.args.head.now (from_trace s entries) c.put.new.gather w0 refl c.in_ok-put.ensures.all c.put.ensures.cause.later c.in_ok-put.ensures.steady in
    let w2 =
    writing_goes_on a (g.K.Sink.held c.put.new.sink) n (g.K.Sink.faults c.put.new.sink) steady (g.K.Sink.is_steady c.put.new.sink) (g.K.Sink.held c.write_part.new.sink) (g.K.Sink.faults c.write_part.new.sink) (g.K.Sink.is_steady c.write_part.new.sink)
    (waiting ++ text) c.put.new.gather (from_trace s entries) (part_text s Trace 1 entries) (from_end s entries) c.write_part.new.writer.gather w1 refl c.in_ok-write_part.ensures.all c.write_part.ensures.cause.later c.in_ok-write_part.ensures.steady in
    let w3 =
    writing_goes_on a (g.K.Sink.held c.write_part.new.sink) n (g.K.Sink.faults c.write_part.new.sink) steady (g.K.Sink.is_steady c.write_part.new.sink) (g.K.Sink.held c.put-2.new.sink) (g.K.Sink.faults c.put-2.new.sink) (g.K.Sink.is_steady c.put-2.new.sink)
    (waiting ++ text) c.write_part.new.writer.gather (from_end s entries) (codes "end\nrams-book 1\n") (from_book s entries) c.put-2.new.gather w2 refl c.in_ok-put-2.ensures.all c.put-2.ensures.cause.later c.in_ok-put-2.ensures.steady in
    only_err c.from_residual-in_err-write_part-2.result p.0 c.in_err-write_part-2.field-0.0 _ p.1 p.2
    (c.in_err-write_part-2.ensures.steady _ (writing_has_room a (g.K.Sink.held c.put-2.new.sink) n (g.K.Sink.faults c.put-2.new.sink) steady (g.K.Sink.is_steady c.put-2.new.sink) (waiting ++ text) c.put-2.new.gather (from_book s entries) (part_text s Book 1 entries) (done (length entries)).text w3 refl room (together steady waiting text room h)))

pub returns-clause-all : goal.returns-clause-all
returns-clause-all g c =
    let s = c.args.config.now in
    let entries = c.args.entries.now in
    let waiting = c.args.writer.now.gather in
    let text = written_text s c.args.head.now entries in
    let a = g.K.Sink.held c.args.sink.now in
    let n = g.K.Sink.faults c.args.sink.now in
    let steady = g.K.Sink.is_steady c.args.sink.now in
    let w0 = writing_begins a a n n steady steady waiting text refl refl (λ k h. h) in
    let w1 =
    writing_goes_on a (g.K.Sink.held c.args.sink.now) n (g.K.Sink.faults c.args.sink.now) steady (g.K.Sink.is_steady c.args.sink.now) (g.K.Sink.held c.put.new.sink) (g.K.Sink.faults c.put.new.sink) (g.K.Sink.is_steady c.put.new.sink)
    (waiting ++ text) waiting text c.args.head.now (from_trace s entries) c.put.new.gather w0 refl c.in_ok-put.ensures.all c.put.ensures.cause.later c.in_ok-put.ensures.steady in
    let w2 =
    writing_goes_on a (g.K.Sink.held c.put.new.sink) n (g.K.Sink.faults c.put.new.sink) steady (g.K.Sink.is_steady c.put.new.sink) (g.K.Sink.held c.write_part.new.sink) (g.K.Sink.faults c.write_part.new.sink) (g.K.Sink.is_steady c.write_part.new.sink)
    (waiting ++ text) c.put.new.gather (from_trace s entries) (part_text s Trace 1 entries) (from_end s entries) c.write_part.new.writer.gather w1 refl c.in_ok-write_part.ensures.all c.write_part.ensures.cause.later c.in_ok-write_part.ensures.steady in
    let w3 =
    writing_goes_on a (g.K.Sink.held c.write_part.new.sink) n (g.K.Sink.faults c.write_part.new.sink) steady (g.K.Sink.is_steady c.write_part.new.sink) (g.K.Sink.held c.put-2.new.sink) (g.K.Sink.faults c.put-2.new.sink) (g.K.Sink.is_steady c.put-2.new.sink)
    (waiting ++ text) c.write_part.new.writer.gather (from_end s entries) (codes "end\nrams-book 1\n") (from_book s entries) c.put-2.new.gather w2 refl c.in_ok-put-2.ensures.all c.put-2.ensures.cause.later c.in_ok-put-2.ensures.steady in
    let w4 =
    writing_goes_on a (g.K.Sink.held c.put-2.new.sink) n (g.K.Sink.faults c.put-2.new.sink) steady (g.K.Sink.is_steady c.put-2.new.sink) (g.K.Sink.held c.write_part-2.new.sink) (g.K.Sink.faults c.write_part-2.new.sink) (g.K.Sink.is_steady c.write_part-2.new.sink)
    (waiting ++ text) c.put-2.new.gather (from_book s entries) (part_text s Book 1 entries) (done (length entries)).text c.write_part-2.new.writer.gather w3 refl c.in_ok-write_part-2.ensures.all c.write_part-2.ensures.cause.later c.in_ok-write_part-2.ensures.steady in
    on_ok_weaker c.write_done.result (writing_last a (g.K.Sink.held c.write_part-2.new.sink) (g.K.Sink.held c.write_done.new.sink) n (g.K.Sink.faults c.write_part-2.new.sink) steady (g.K.Sink.is_steady c.write_part-2.new.sink) (waiting ++ text) c.write_part-2.new.writer.gather (done (length entries)).text c.write_done.new.writer.gather w4) c.write_done.ensures.all

pub returns-clause-front : goal.returns-clause-front
returns-clause-front g c =
    let s = c.args.config.now in
    let entries = c.args.entries.now in
    let waiting = c.args.writer.now.gather in
    let text = written_text s c.args.head.now entries in
    let a = g.K.Sink.held c.args.sink.now in
    let n = g.K.Sink.faults c.args.sink.now in
    let steady = g.K.Sink.is_steady c.args.sink.now in
    let w0 = writing_begins a a n n steady steady waiting text refl refl (λ k h. h) in
    let w1 =
    writing_goes_on a (g.K.Sink.held c.args.sink.now) n (g.K.Sink.faults c.args.sink.now) steady (g.K.Sink.is_steady c.args.sink.now) (g.K.Sink.held c.put.new.sink) (g.K.Sink.faults c.put.new.sink) (g.K.Sink.is_steady c.put.new.sink)
    (waiting ++ text) waiting text c.args.head.now (from_trace s entries) c.put.new.gather w0 refl c.in_ok-put.ensures.all c.put.ensures.cause.later c.in_ok-put.ensures.steady in
    let w2 =
    writing_goes_on a (g.K.Sink.held c.put.new.sink) n (g.K.Sink.faults c.put.new.sink) steady (g.K.Sink.is_steady c.put.new.sink) (g.K.Sink.held c.write_part.new.sink) (g.K.Sink.faults c.write_part.new.sink) (g.K.Sink.is_steady c.write_part.new.sink)
    (waiting ++ text) c.put.new.gather (from_trace s entries) (part_text s Trace 1 entries) (from_end s entries) c.write_part.new.writer.gather w1 refl c.in_ok-write_part.ensures.all c.write_part.ensures.cause.later c.in_ok-write_part.ensures.steady in
    let w3 =
    writing_goes_on a (g.K.Sink.held c.write_part.new.sink) n (g.K.Sink.faults c.write_part.new.sink) steady (g.K.Sink.is_steady c.write_part.new.sink) (g.K.Sink.held c.put-2.new.sink) (g.K.Sink.faults c.put-2.new.sink) (g.K.Sink.is_steady c.put-2.new.sink)
    (waiting ++ text) c.write_part.new.writer.gather (from_end s entries) (codes "end\nrams-book 1\n") (from_book s entries) c.put-2.new.gather w2 refl c.in_ok-put-2.ensures.all c.put-2.ensures.cause.later c.in_ok-put-2.ensures.steady in
    let w4 =
    writing_goes_on a (g.K.Sink.held c.put-2.new.sink) n (g.K.Sink.faults c.put-2.new.sink) steady (g.K.Sink.is_steady c.put-2.new.sink) (g.K.Sink.held c.write_part-2.new.sink) (g.K.Sink.faults c.write_part-2.new.sink) (g.K.Sink.is_steady c.write_part-2.new.sink)
    (waiting ++ text) c.put-2.new.gather (from_book s entries) (part_text s Book 1 entries) (done (length entries)).text c.write_part-2.new.writer.gather w3 refl c.in_ok-write_part-2.ensures.all c.write_part-2.ensures.cause.later c.in_ok-write_part-2.ensures.steady in
    IfErr-weaker c.write_done.result _ _ (λ stop. writing_stops a (g.K.Sink.held c.write_part-2.new.sink) n (g.K.Sink.faults c.write_part-2.new.sink) steady (g.K.Sink.is_steady c.write_part-2.new.sink) (g.K.Sink.held c.write_done.new.sink) (waiting ++ text) c.write_part-2.new.writer.gather (done (length entries)).text (done (length entries)).text [] c.write_done.new.writer.gather stop w4 (sym (append-nil (done (length entries)).text))) c.write_done.ensures.front

pub returns-clause-steady : goal.returns-clause-steady
returns-clause-steady g c = λ room h.
    let s = c.args.config.now in
    let entries = c.args.entries.now in
    let waiting = c.args.writer.now.gather in
    let text = written_text s c.args.head.now entries in
    let a = g.K.Sink.held c.args.sink.now in
    let n = g.K.Sink.faults c.args.sink.now in
    let steady = g.K.Sink.is_steady c.args.sink.now in
    let w0 = writing_begins a a n n steady steady waiting text refl refl (λ k h. h) in
    let w1 =
    writing_goes_on a (g.K.Sink.held c.args.sink.now) n (g.K.Sink.faults c.args.sink.now) steady (g.K.Sink.is_steady c.args.sink.now) (g.K.Sink.held c.put.new.sink) (g.K.Sink.faults c.put.new.sink) (g.K.Sink.is_steady c.put.new.sink)
    (waiting ++ text) waiting text c.args.head.now (from_trace s entries) c.put.new.gather w0 refl c.in_ok-put.ensures.all c.put.ensures.cause.later c.in_ok-put.ensures.steady in
    let w2 =
    writing_goes_on a (g.K.Sink.held c.put.new.sink) n (g.K.Sink.faults c.put.new.sink) steady (g.K.Sink.is_steady c.put.new.sink) (g.K.Sink.held c.write_part.new.sink) (g.K.Sink.faults c.write_part.new.sink) (g.K.Sink.is_steady c.write_part.new.sink)
    (waiting ++ text) c.put.new.gather (from_trace s entries) (part_text s Trace 1 entries) (from_end s entries) c.write_part.new.writer.gather w1 refl c.in_ok-write_part.ensures.all c.write_part.ensures.cause.later c.in_ok-write_part.ensures.steady in
    let w3 =
    writing_goes_on a (g.K.Sink.held c.write_part.new.sink) n (g.K.Sink.faults c.write_part.new.sink) steady (g.K.Sink.is_steady c.write_part.new.sink) (g.K.Sink.held c.put-2.new.sink) (g.K.Sink.faults c.put-2.new.sink) (g.K.Sink.is_steady c.put-2.new.sink)
    (waiting ++ text) c.write_part.new.writer.gather (from_end s entries) (codes "end\nrams-book 1\n") (from_book s entries) c.put-2.new.gather w2 refl c.in_ok-put-2.ensures.all c.put-2.ensures.cause.later c.in_ok-put-2.ensures.steady in
    let w4 =
    writing_goes_on a (g.K.Sink.held c.put-2.new.sink) n (g.K.Sink.faults c.put-2.new.sink) steady (g.K.Sink.is_steady c.put-2.new.sink) (g.K.Sink.held c.write_part-2.new.sink) (g.K.Sink.faults c.write_part-2.new.sink) (g.K.Sink.is_steady c.write_part-2.new.sink)
    (waiting ++ text) c.put-2.new.gather (from_book s entries) (part_text s Book 1 entries) (done (length entries)).text c.write_part-2.new.writer.gather w3 refl c.in_ok-write_part-2.ensures.all c.write_part-2.ensures.cause.later c.in_ok-write_part-2.ensures.steady in
    c.write_done.ensures.steady room (w4.steadily room (together steady waiting text room h))
