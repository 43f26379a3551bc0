use Rattle.std.proofs.Common.{◌≡◌, IfErr, ◌++◌, ◌+◌, ◌++◌, length, Result, Err, refl, sym, ap, ◌∙◌, subst, arith}
use Rattle.std.proofs.lemmas.Result.{err_from_is_err_and}
use Rattle.std.specs.Io.KnownBytes.{prepend_known}
use Rattle.rams_model.specs.declared.Status.{Status}
use Rattle.trace_loop.specs.declared.{stop.Stop.Stop, stop.Stop.TheVariants.Memory, stop.Stop.TheVariants.Read}
use Rattle.trace_loop.specs.{OnlyMemoryStops, StopsIn, IfTold}
use Rattle.trace_loop.specs.trace_book.trace_serving.{opening}
use Rattle.trace_loop.proofs.Reading.{not_by_source}
use Rattle.trace_loop.proofs.Running.{outcome, unstarted, told_gives, running_begins, running_breaks, running_reads, running_stops, running_has_room, running_goes_on, running_ends, running_ends_steadily}
use Rattle.trace_loop.proofs.lines.write_lines.Goals as goal

pub returns-in_err-reader-clause-front : goal.returns-in_err-reader-clause-front
returns-in_err-reader-clause-front g c =
    let p = err_from_is_err_and c.from_residual.result c.from_residual.ensures.1 in
    let stops = unstarted g.V.TraceServer.serving (g.K.Sink.held c.args.sink.now) c.args.writer.now.gather (g.S.Source.left c.args.source.now) p.0 in
    subst (λ (r : Result Status Stop). IfErr r (λ stop. IfTold (g.S.Source.left c.args.source.now)
    (λ xs. StopsIn (g.K.Sink.held c.args.sink.now) (g.K.Sink.held c.args.sink.now) (c.args.writer.now.gather ++ (outcome g.V.TraceServer.serving xs).text) c.args.writer.now.gather stop))) (sym p.1) stops

pub loop-number-init : goal.loop-number-init
loop-number-init g c =
    let begins = running_begins g.V.TraceServer.serving (g.K.Sink.held c.args.sink.now) (g.K.Sink.held c.args.sink.now) (g.K.Sink.faults c.args.sink.now) (g.K.Sink.faults c.args.sink.now) (g.K.Sink.is_steady c.args.sink.now) (g.K.Sink.is_steady c.args.sink.now)
    c.args.writer.now.gather c.args.writer.now.gather (g.V.TraceServer.stands c.args.server.now)
    (g.S.Source.left c.args.source.now) c.in_ok-reader.reader.kept c.in_ok-reader.ensures.kept refl refl (λ n s. s) refl c.requires in
    (begins, omega arith, omega arith, λ s. s, (opening g.V.TraceServer.serving, c.requires))

pub returns-in_err-turn-clause-front : goal.returns-in_err-turn-clause-front
returns-in_err-turn-clause-front g c =
    let leaves = prepend_known c.loop-number.reader.kept (g.S.Source.left c.loop-number.source) in
    let p = err_from_is_err_and c.from_residual-in_err-turn.result c.from_residual-in_err-turn.ensures.1 in
    let stops = running_breaks g.V.TraceServer.serving _ _ _ _ _ _ _ _ _ (g.S.Source.left c.args.source.now) leaves c.loop-number.number p.0 c.loop-number.invariant.0 in
    subst (λ (r : Result Status Stop). IfErr r (λ stop. IfTold (g.S.Source.left c.args.source.now)
    (λ xs. StopsIn (g.K.Sink.held c.args.sink.now) (g.K.Sink.held c.loop-number.sink) (c.args.writer.now.gather ++ (outcome g.V.TraceServer.serving xs).text) c.loop-number.writer.gather stop))) (sym p.1) stops

pub returns-in_err-turn-clause-read : goal.returns-in_err-turn-clause-read
returns-in_err-turn-clause-read g c = λ e.
    let leaves = prepend_known c.loop-number.reader.kept (g.S.Source.left c.loop-number.source) in
    let p = err_from_is_err_and c.from_residual-in_err-turn.result c.from_residual-in_err-turn.ensures.1 in
    let read : p.0 ≡ Read = cc in
    let same = c.in_err-turn.ensures.same (ap Err (sym p.2 ∙ read)) in
    running_reads g.V.TraceServer.serving _ _ _ _ _ _ _ _ _ (g.S.Source.left c.args.source.now) leaves c.loop-number.number c.next_turn.new.reader.kept (g.S.Source.left c.next_turn.new.source) c.loop-number.invariant.0
    (c.in_err-turn.ensures.unread (ap Err (sym p.2 ∙ read))) same

pub returns-in_err-write_turn-clause-read : goal.returns-in_err-write_turn-clause-read
returns-in_err-write_turn-clause-read g c = λ e.
    let p = err_from_is_err_and c.from_residual-in_err-write_turn.result c.from_residual-in_err-write_turn.ensures.1 in
    absurd (not_by_source _ _ c.from_residual-in_err-write_turn.result p.0 c.in_err-write_turn.field-0.0 p.1 p.2 c.in_err-write_turn.ensures.cause.cause e)

pub returns-in_err-write_turn-clause-front : goal.returns-in_err-write_turn-clause-front
returns-in_err-write_turn-clause-front g c =
    let left = g.S.Source.left c.args.source.now in
    let leaves = prepend_known c.loop-number.reader.kept (g.S.Source.left c.loop-number.source) in
    let later = prepend_known c.next_turn.new.reader.kept (g.S.Source.left c.next_turn.new.source) in
    let p = err_from_is_err_and c.from_residual-in_err-write_turn.result c.from_residual-in_err-write_turn.ensures.1 in
    let stops = running_stops g.V.TraceServer.serving _ _ _ _ _ _ _ _ _ _ _ _ _ _ left leaves later c.write_turn.new.writer.gather c.in_err-write_turn.field-0.0 c.loop-number.invariant.0 (λ stage. c.in_ok-turn.ensures.turn stage c.loop-number.number) c.in_err-write_turn.ensures.front in
    let is = subst (λ (stop : Stop). IfTold left (λ xs. StopsIn (g.K.Sink.held c.args.sink.now) (g.K.Sink.held c.write_turn.new.sink) (c.args.writer.now.gather ++ (outcome g.V.TraceServer.serving xs).text) c.write_turn.new.writer.gather stop)) (sym p.2) stops in
    subst (λ (r : Result Status Stop). IfErr r (λ stop. IfTold left
    (λ xs. StopsIn (g.K.Sink.held c.args.sink.now) (g.K.Sink.held c.write_turn.new.sink) (c.args.writer.now.gather ++ (outcome g.V.TraceServer.serving xs).text) c.write_turn.new.writer.gather stop))) (sym p.1) is

pub returns-in_err-write_turn-clause-steady : goal.returns-in_err-write_turn-clause-steady
returns-in_err-write_turn-clause-steady g c = λ calm.
    let left = g.S.Source.left c.args.source.now in
    let leaves = prepend_known c.loop-number.reader.kept (g.S.Source.left c.loop-number.source) in
    let later = prepend_known c.next_turn.new.reader.kept (g.S.Source.left c.next_turn.new.source) in
    let p = err_from_is_err_and c.from_residual-in_err-write_turn.result c.from_residual-in_err-write_turn.ensures.1 in
    let room = running_has_room g.V.TraceServer.serving _ _ _ _ (g.K.Sink.is_steady c.args.sink.now) (g.K.Sink.is_steady c.loop-number.sink) c.args.writer.now.gather c.loop-number.writer.gather _ _ c.loop-number.number _ _
    left leaves later c.loop-number.invariant.0 (λ stage. c.in_ok-turn.ensures.turn stage c.loop-number.number) in
    told_gives left _ _
    (λ xs has. λ room s.
    let more = has room s in
    let stop = c.in_err-write_turn.ensures.steady more.0 more.1 in
    subst (λ (r : Result Status Stop). OnlyMemoryStops r (g.K.Sink.is_steady c.write_turn.new.sink (length c.write_turn.new.writer.gather + room))) (sym p.1) (p.2 ∙ stop))
    room

pub returns-in-Some-clause-text : goal.returns-in-Some-clause-text
returns-in-Some-clause-text g c =
    let left = g.S.Source.left c.args.source.now in
    let leaves = prepend_known c.loop-number.reader.kept (g.S.Source.left c.loop-number.source) in
    let later = prepend_known c.next_turn.new.reader.kept (g.S.Source.left c.next_turn.new.source) in
    running_ends g.V.TraceServer.serving _ _ _ _ _ _ _ _ _ _ _ _ _ _ 0 (λ n. Unit {0}) _ left leaves later c.in-Some.status c.loop-number.invariant.0 (λ stage. c.in_ok-turn.ensures.turn stage c.loop-number.number) (sym c.ending.ensures.value ∙ c.in-Some.is) c.in_ok-write_turn.ensures.all

pub returns-in-Some-clause-steady : goal.returns-in-Some-clause-steady
returns-in-Some-clause-steady g c = λ calm.
    let left = g.S.Source.left c.args.source.now in
    let leaves = prepend_known c.loop-number.reader.kept (g.S.Source.left c.loop-number.source) in
    let later = prepend_known c.next_turn.new.reader.kept (g.S.Source.left c.next_turn.new.source) in
    running_ends_steadily g.V.TraceServer.serving _ _ _ _ _ _ _ _ _ _ _ _ _ (g.K.Sink.held c.write_turn.new.sink) (g.K.Sink.faults c.write_turn.new.sink) (g.K.Sink.is_steady c.write_turn.new.sink) c.write_turn.new.writer.gather left leaves later c.in-Some.status c.loop-number.invariant.0 (λ stage. c.in_ok-turn.ensures.turn stage c.loop-number.number) (sym c.ending.ensures.value ∙ c.in-Some.is) c.in_ok-write_turn.ensures.steady

pub loop-number-preserved : goal.loop-number-preserved
loop-number-preserved g c =
    let left = g.S.Source.left c.args.source.now in
    let leaves = prepend_known c.loop-number.reader.kept (g.S.Source.left c.loop-number.source) in
    let later = prepend_known c.next_turn.new.reader.kept (g.S.Source.left c.next_turn.new.source) in
    let reads = c.loop-number.invariant.1 in
    let writes = c.loop-number.invariant.2 in
    let more_reads = c.next_turn.ensures.cause.later in
    let more_writes = c.write_turn.ensures.cause.later in
    let goes_on = running_goes_on g.V.TraceServer.serving _ _ _ _ _ _ _ _ _ _ _ _ _ _ _ _ _ left leaves later c.loop-number.invariant.0 (λ stage. c.in_ok-turn.ensures.turn stage c.loop-number.number) (sym c.ending.ensures.value ∙ c.in_default.is) c.in_ok-write_turn.ensures.all
    more_writes c.in_ok-write_turn.ensures.steady in
    (goes_on, omega arith, omega arith, λ s. c.in_ok-turn.ensures.steady (c.loop-number.invariant.3 s), c.in_ok-turn.ensures.stands (sym c.ending.ensures.value ∙ c.in_default.is))

pub returns-clause-front : goal.returns-clause-front
returns-clause-front g c =
    let leaves = prepend_known c.loop-number.reader.kept (g.S.Source.left c.loop-number.source) in
    running_breaks g.V.TraceServer.serving _ _ _ _ _ _ _ _ _ (g.S.Source.left c.args.source.now) leaves c.loop-number.number Memory c.loop-number.invariant.0
