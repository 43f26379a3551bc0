use Rattle.std.proofs.Common.{◌≡◌, ℕ, List, ◌++◌, [], length, Result, sym, ap, ◌∙◌, subst, length-append, arith}
use Rattle.std.proofs.lemmas.Result.{err_from_is_err_and}
use Rattle.line_io.specs.Passes.{Passes}
use Rattle.rams_model.specs.declared.Status.{Status}
use Rattle.trace_loop.specs.declared.stop.Stop.{Stop}
use Rattle.trace_loop.specs.{OnlyMemoryStops, StopsIn}
use Rattle.trace_loop.proofs.Reading.{not_by_source, ended_by_source, either, rose_since, lines_then_all}
use Rattle.trace_loop.proofs.Running.{outcome, told_gives}
use Rattle.trace_loop.proofs.Stopping.{stops_front}
use Rattle.trace_loop.proofs.Whole.{told_all, none_of, part_of_first, part_of_front, first_goes, has_whole_text, has_front, room_of}
use Rattle.trace_loop.proofs.text.write_text.Goals as goal

pub returns-in_err-writer-clause-front : goal.returns-in_err-writer-clause-front
returns-in_err-writer-clause-front g c = none_of g.V.TraceServer.serving (g.K.Sink.held c.args.sink.now) (g.S.Source.left c.args.source.now)

pub returns-in_err-put-clause-front : goal.returns-in_err-put-clause-front
returns-in_err-put-clause-front g c =
    let held = g.K.Sink.held c.args.sink.now in
    let holds = g.K.Sink.held c.put.new.sink in
    let waiting = c.in_ok-writer.writer.gather in
    part_of_first g.V.TraceServer.serving held holds waiting (g.S.Source.left c.args.source.now) c.in_ok-writer.ensures (stops_front held holds (waiting ++ g.V.TraceServer.serving.first_line) c.put.new.gather c.in_err-put.field-0.0
    (subst (λ (l : List ℕ). StopsIn held holds (waiting ++ l) c.put.new.gather c.in_err-put.field-0.0) c.requires.first c.in_err-put.ensures.front))

pub returns-in_err-put-clause-read : goal.returns-in_err-put-clause-read
returns-in_err-put-clause-read g c = λ e.
    let p = err_from_is_err_and c.from_residual-in_err-put.result c.from_residual-in_err-put.ensures.1 in
    absurd (not_by_source _ _ c.from_residual-in_err-put.result p.0 c.in_err-put.field-0.0 p.1 p.2 c.in_err-put.ensures.cause.cause e)

pub returns-in_err-put-clause-steady : goal.returns-in_err-put-clause-steady
returns-in_err-put-clause-steady g c = λ calm.
    let p = err_from_is_err_and c.from_residual-in_err-put.result c.from_residual-in_err-put.ensures.1 in
    told_all (g.S.Source.left c.args.source.now) _ (λ xs. λ roomy.
    let first = ap length c.requires.first in
    let lengths = room_of g.V.TraceServer.serving xs in
    let none : length c.in_ok-writer.writer.gather ≡ 0 = ap length c.in_ok-writer.ensures in
    let room = length (outcome g.V.TraceServer.serving xs).text in
    let stop = c.in_err-put.ensures.steady room (subst (g.K.Sink.is_steady c.args.sink.now) (omega arith) roomy) in
    subst (λ (r : Result Status Stop). OnlyMemoryStops r (Unit {0})) (sym p.1) (p.2 ∙ stop))

pub returns-in_err-flush-clause-front : goal.returns-in_err-flush-clause-front
returns-in_err-flush-clause-front g c =
    let a = g.K.Sink.held c.args.sink.now in
    let b = g.K.Sink.held c.put.new.sink in
    let holds = g.K.Sink.held c.flush.new.sink in
    let p = c.flush.ensures.prefix in
    part_of_front g.V.TraceServer.serving a holds (g.S.Source.left c.args.source.now) (p.0, first_goes g.V.TraceServer.serving a b holds c.in_ok-writer.writer.gather c.put.new.gather p.0 c.in_ok-writer.ensures (subst (λ (l : List ℕ). Passes a (g.K.Sink.held c.put.new.sink) (c.in_ok-writer.writer.gather ++ l) c.put.new.gather) c.requires.first c.in_ok-put.ensures.all) p.1)

pub returns-in_err-flush-clause-read : goal.returns-in_err-flush-clause-read
returns-in_err-flush-clause-read g c = λ e.
    let p = err_from_is_err_and c.from_residual-in_err-flush.result c.from_residual-in_err-flush.ensures.1 in
    absurd (not_by_source _ _ c.from_residual-in_err-flush.result p.0 c.in_err-flush.field-0.0 p.1 p.2 c.in_err-flush.ensures.cause.cause e)

pub returns-in_err-flush-clause-steady : goal.returns-in_err-flush-clause-steady
returns-in_err-flush-clause-steady g c = λ calm.
    let p = err_from_is_err_and c.from_residual-in_err-flush.result c.from_residual-in_err-flush.ensures.1 in
    told_all (g.S.Source.left c.args.source.now) _ (λ xs. λ roomy.
    let first = ap length c.requires.first in
    let lengths = room_of g.V.TraceServer.serving xs in
    let none : length c.in_ok-writer.writer.gather ≡ 0 = ap length c.in_ok-writer.ensures in
    let room = length (outcome g.V.TraceServer.serving xs).text in
    let put = c.in_ok-put.ensures.steady room (subst (g.K.Sink.is_steady c.args.sink.now) (omega arith) roomy) in
    let stop = c.in_err-flush.ensures.steady room put in
    subst (λ (r : Result Status Stop). OnlyMemoryStops r (Unit {0})) (sym p.1) (p.2 ∙ stop))

pub returns-clause-text : goal.returns-clause-text
returns-clause-text g c =
    let a = g.K.Sink.held c.args.sink.now in
    let b = g.K.Sink.held c.flush.new.sink in
    let first = first_goes g.V.TraceServer.serving a (g.K.Sink.held c.put.new.sink) b c.in_ok-writer.writer.gather c.put.new.gather [] c.in_ok-writer.ensures (subst (λ (l : List ℕ). Passes a (g.K.Sink.held c.put.new.sink) (c.in_ok-writer.writer.gather ++ l) c.put.new.gather) c.requires.first c.in_ok-put.ensures.all) c.in_ok-flush.ensures.all in
    has_whole_text g.V.TraceServer.serving a b (g.K.Sink.held c.write_lines-ended.new.sink) (g.K.Sink.held c.close.new.sink) (g.S.Source.left c.args.source.now) c.flush.new.gather c.write_lines-ended.new.writer.gather c.write_lines-ended.result
    c.in_ok-flush.ensures.empty first c.write_lines-ended.ensures.text c.close.result _ _ c.close.ensures.ends c.close.ensures.all

pub returns-clause-front : goal.returns-clause-front
returns-clause-front g c =
    let a = g.K.Sink.held c.args.sink.now in
    let b = g.K.Sink.held c.flush.new.sink in
    let first = first_goes g.V.TraceServer.serving a (g.K.Sink.held c.put.new.sink) b c.in_ok-writer.writer.gather c.put.new.gather [] c.in_ok-writer.ensures (subst (λ (l : List ℕ). Passes a (g.K.Sink.held c.put.new.sink) (c.in_ok-writer.writer.gather ++ l) c.put.new.gather) c.requires.first c.in_ok-put.ensures.all) c.in_ok-flush.ensures.all in
    has_front g.V.TraceServer.serving a b (g.K.Sink.held c.write_lines-ended.new.sink) (g.K.Sink.held c.close.new.sink) (g.S.Source.left c.args.source.now) c.flush.new.gather c.write_lines-ended.new.writer.gather c.write_lines-ended.result
    c.in_ok-flush.ensures.empty first c.write_lines-ended.ensures.text c.write_lines-ended.ensures.front (λ e. ap g.K.Sink.held (c.close.ensures.untouched e)) c.close.ensures.prefix

pub returns-clause-read : goal.returns-clause-read
returns-clause-read g c = λ e.
    let a = g.K.Sink.held c.args.sink.now in
    let b = g.K.Sink.held c.flush.new.sink in
    let first = first_goes g.V.TraceServer.serving a (g.K.Sink.held c.put.new.sink) b c.in_ok-writer.writer.gather c.put.new.gather [] c.in_ok-writer.ensures (subst (λ (l : List ℕ). Passes a (g.K.Sink.held c.put.new.sink) (c.in_ok-writer.writer.gather ++ l) c.put.new.gather) c.requires.first c.in_ok-put.ensures.all) c.in_ok-flush.ensures.all in
    let was = ended_by_source _ _ c.write_lines-ended.result c.close.result c.close.ensures.ends e in
    let lines = c.write_lines-ended.ensures.read was in
    let before = c.put.ensures.cause.later in
    let then = c.flush.ensures.cause.later in
    let later = c.write_lines-ended.ensures.cause.write_later in
    either (c.close.ensures.read was)
    (λ all. lines_then_all g.V.TraceServer.serving a b (g.K.Sink.held c.write_lines-ended.new.sink) (g.K.Sink.held c.close.new.sink) c.flush.new.gather c.write_lines-ended.new.writer.gather
    (g.S.Source.left c.args.source.now) (g.S.Source.left c.write_lines-ended.new.source) c.in_ok-flush.ensures.empty first lines all)
    (rose_since (g.K.Sink.faults c.args.sink.now) (g.K.Sink.faults c.write_lines-ended.new.sink) (g.K.Sink.faults c.close.new.sink) (omega arith))

pub returns-clause-steady : goal.returns-clause-steady
returns-clause-steady g c = λ calm.
    told_gives (g.S.Source.left c.args.source.now) _ _ (λ xs lines. λ roomy.
    let first = ap length c.requires.first in
    let lengths = room_of g.V.TraceServer.serving xs in
    let none : length c.in_ok-writer.writer.gather ≡ 0 = ap length c.in_ok-writer.ensures in
    let empty : length c.flush.new.gather ≡ 0 = ap length c.in_ok-flush.ensures.empty in
    let room = length (outcome g.V.TraceServer.serving xs).text in
    let put = c.in_ok-put.ensures.steady room (subst (g.K.Sink.is_steady c.args.sink.now) (omega arith) roomy) in
    let flushed = c.in_ok-flush.ensures.steady room put in
    let joined = length-append c.flush.new.gather (outcome g.V.TraceServer.serving xs).text in
    let ended = lines 0 (subst (g.K.Sink.is_steady c.flush.new.sink) (omega arith) flushed) in
    c.close.ensures.steady 0 ended)
    (c.write_lines-ended.ensures.steady calm)
