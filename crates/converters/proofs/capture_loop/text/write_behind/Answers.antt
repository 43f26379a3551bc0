use Rattle.std.proofs.Common.{◌≡◌, ℕ, ◌+◌, List, [], ◌++◌, length, Option, IfOk, refl, ap, subst, arith, length-append}
use Rattle.std.proofs.lemmas.Result.{err_from_is_err_and}
use Rattle.std.specs.Io.KnownBytes.{Appends, prepend_known}
use Rattle.line_io.specs.Passes.{Passes}
use Rattle.line_io.proofs.Passing.{Passes-none}
use Rattle.rams_model.specs.declared.Status.TheVariants.{Done}
use Rattle.trace_loop.specs.trace_book.trace_serving.{after_text}
use Rattle.trace_loop.specs.declared.Stop.TheVariants.{Memory}
use Rattle.trace_loop.specs.{IfBothTold, IfTold, OnlyMemoryStops}
use Rattle.trace_loop.proofs.Reading.{either, ended_by_source, rose_since}
use Rattle.trace_loop.proofs.Running.{told_gives}
use Rattle.trace_loop.proofs.Whole.{told_all}
use Rattle.converters.specs.capture_loop.{AreWritten, HasLinesOf, Numbered, file_events, file_text, new_clock}
use Rattle.trace_loop.proofs.Stopping.{only_err}
use Rattle.converters.proofs.capture_loop.Closing.{both_told, done_before, lines_gone}
use Rattle.converters.proofs.capture_loop.Stopping.{not_ok}
use Rattle.converters.proofs.capture_loop.Whole.{closed_cause, closed_front, closed_status, closed_text, for_all, for_one, memory_never_reads, memory_stopped, stop_for_one}
use Rattle.converters.proofs.capture_loop.text.write_behind.Goals as goal

room_first : (sink : ℕ → Type 0) (waits text : List ℕ) → waits ≡ [] → sink (length text) → sink (length (waits ++ text) + 0)
room_first sink waits text none h =
    let zero = ap length none in
    let same : length text ≡ length (waits ++ text) + 0 = omega (arith, zero, length-append waits text) in
    subst sink same h

pub returns-in_err-gather-clause-journal : goal.returns-in_err-gather-clause-journal
returns-in_err-gather-clause-journal g c = λ e.
    let p = err_from_is_err_and c.from_residual.result c.from_residual.ensures.1 in
    absurd (not_ok c.from_residual.result p.0 Done p.1 e)

pub returns-in_err-gather-clause-ended : goal.returns-in_err-gather-clause-ended
returns-in_err-gather-clause-ended g c = λ e.
    let p = err_from_is_err_and c.from_residual.result c.from_residual.ensures.1 in
    absurd (not_ok c.from_residual.result p.0 Done p.1 e)

pub returns-in_err-gather-clause-front : goal.returns-in_err-gather-clause-front
returns-in_err-gather-clause-front g c = λ channels numbered.
    told_all (prepend_known c.args.bytes.now (g.S.Source.left c.args.source.now)) _ (λ xs. ((after_text c.args.opened.now.text.items (file_text c.args.port channels (new_clock c.args.opened.now.hub.tick) xs)).text, Passes-none (g.K.Sink.held c.args.sink.now) (after_text c.args.opened.now.text.items (file_text c.args.port channels (new_clock c.args.opened.now.hub.tick) xs)).text))

pub returns-in_err-gather-clause-read : goal.returns-in_err-gather-clause-read
returns-in_err-gather-clause-read g c = λ e.
    let p = err_from_is_err_and c.from_residual.result c.from_residual.ensures.1 in
    absurd (memory_never_reads c.from_residual.result p.0 p.1 p.2 e)

pub returns-in_err-gather-clause-cause : goal.returns-in_err-gather-clause-cause
returns-in_err-gather-clause-cause g c =
    let p = err_from_is_err_and c.from_residual.result c.from_residual.ensures.1 in
    memory_stopped _ _ c.from_residual.result p.0 p.1 p.2

pub returns-in_err-gather-clause-steady : goal.returns-in_err-gather-clause-steady
returns-in_err-gather-clause-steady g c = λ s channels numbered.
    let p = err_from_is_err_and c.from_residual.result c.from_residual.ensures.1 in
    told_all (prepend_known c.args.bytes.now (g.S.Source.left c.args.source.now)) _ (λ xs h. only_err c.from_residual.result p.0 Memory _ p.1 p.2 refl)

pub returns-in_err-intake-clause-journal : goal.returns-in_err-intake-clause-journal
returns-in_err-intake-clause-journal g c = λ e.
    let p = err_from_is_err_and c.from_residual-in_err-intake.result c.from_residual-in_err-intake.ensures.1 in
    absurd (not_ok c.from_residual-in_err-intake.result p.0 Done p.1 e)

pub returns-in_err-intake-clause-ended : goal.returns-in_err-intake-clause-ended
returns-in_err-intake-clause-ended g c = λ e.
    let p = err_from_is_err_and c.from_residual-in_err-intake.result c.from_residual-in_err-intake.ensures.1 in
    absurd (not_ok c.from_residual-in_err-intake.result p.0 Done p.1 e)

pub returns-in_err-intake-clause-front : goal.returns-in_err-intake-clause-front
returns-in_err-intake-clause-front g c = λ channels numbered.
    told_all (prepend_known c.args.bytes.now (g.S.Source.left c.args.source.now)) _ (λ xs. ((after_text c.args.opened.now.text.items (file_text c.args.port channels (new_clock c.args.opened.now.hub.tick) xs)).text, Passes-none (g.K.Sink.held c.args.sink.now) (after_text c.args.opened.now.text.items (file_text c.args.port channels (new_clock c.args.opened.now.hub.tick) xs)).text))

pub returns-in_err-intake-clause-read : goal.returns-in_err-intake-clause-read
returns-in_err-intake-clause-read g c = λ e.
    let p = err_from_is_err_and c.from_residual-in_err-intake.result c.from_residual-in_err-intake.ensures.1 in
    absurd (memory_never_reads c.from_residual-in_err-intake.result p.0 p.1 p.2 e)

pub returns-in_err-intake-clause-cause : goal.returns-in_err-intake-clause-cause
returns-in_err-intake-clause-cause g c =
    let p = err_from_is_err_and c.from_residual-in_err-intake.result c.from_residual-in_err-intake.ensures.1 in
    memory_stopped _ _ c.from_residual-in_err-intake.result p.0 p.1 p.2

pub returns-in_err-intake-clause-steady : goal.returns-in_err-intake-clause-steady
returns-in_err-intake-clause-steady g c = λ s channels numbered.
    let p = err_from_is_err_and c.from_residual-in_err-intake.result c.from_residual-in_err-intake.ensures.1 in
    told_all (prepend_known c.args.bytes.now (g.S.Source.left c.args.source.now)) _ (λ xs h. only_err c.from_residual-in_err-intake.result p.0 Memory _ p.1 p.2 refl)

pub returns-clause-status : goal.returns-clause-status
returns-clause-status g c =
    closed_status _ _ c.write_all-ended.result c.close.result c.close.ensures.ends c.write_all-ended.ensures.status

pub returns-clause-text : goal.returns-clause-text
returns-clause-text g c =
    let kept = ap (λ (k : List ℕ). prepend_known k (g.S.Source.left c.args.source.now)) c.in_ok-intake.ensures in
    for_all (Numbered c.args.opened.now.ids.items) c.close.result _
    (λ channels numbered. subst (λ (o : Option (List ℕ)). IfOk c.close.result (λ status. IfTold o (λ xs. (status ≡ (after_text c.args.opened.now.text.items (file_text c.args.port channels (new_clock c.args.opened.now.hub.tick) xs)).status) × Appends (g.K.Sink.held c.args.sink.now) (g.K.Sink.held c.close.new.sink) (after_text c.args.opened.now.text.items (file_text c.args.port channels (new_clock c.args.opened.now.hub.tick) xs)).text))) kept
    (closed_text (g.K.Sink.held c.args.sink.now) (g.K.Sink.held c.write_all-ended.new.sink) (g.K.Sink.held c.close.new.sink) c.in_ok-gather.gather c.write_all-ended.new.gather c.in_ok-gather.ensures (λ xs. after_text c.args.opened.now.text.items (file_text c.args.port channels (new_clock c.args.opened.now.hub.tick) xs)) (prepend_known c.in_ok-intake.intake (g.S.Source.left c.args.source.now)) c.write_all-ended.result c.close.result _ _ c.close.ensures.ends
    (for_one (Numbered c.args.opened.now.ids.items) c.write_all-ended.result _ channels numbered c.write_all-ended.ensures.text) c.close.ensures.all))

pub returns-clause-journal : goal.returns-clause-journal
returns-clause-journal g c = λ e channels numbered.
    let kept = ap (λ (k : List ℕ). prepend_known k (g.S.Source.left c.args.source.now)) c.in_ok-intake.ensures in
    subst (λ (o : Option (List ℕ)). IfTold o (λ xs. AreWritten (file_events c.args.port channels (new_clock c.args.opened.now.hub.tick) xs) (file_text c.args.port channels (new_clock c.args.opened.now.hub.tick) xs))) kept
    (c.write_all-ended.ensures.journal (done_before _ _ c.write_all-ended.result c.close.result c.close.ensures.ends e) channels numbered)

pub returns-clause-ended : goal.returns-clause-ended
returns-clause-ended g c = λ e.
    c.write_all-ended.ensures.ended (done_before _ _ c.write_all-ended.result c.close.result c.close.ensures.ends e)

pub returns-clause-front : goal.returns-clause-front
returns-clause-front g c = λ channels numbered.
    let kept = ap (λ (k : List ℕ). prepend_known k (g.S.Source.left c.args.source.now)) c.in_ok-intake.ensures in
    let front = c.close.ensures.prefix in
    subst (λ (o : Option (List ℕ)). IfTold o (λ xs. (rest : List ℕ) × Passes (g.K.Sink.held c.args.sink.now) (g.K.Sink.held c.close.new.sink) (after_text c.args.opened.now.text.items (file_text c.args.port channels (new_clock c.args.opened.now.hub.tick) xs)).text rest)) kept
    (closed_front (g.K.Sink.held c.args.sink.now) (g.K.Sink.held c.write_all-ended.new.sink) (g.K.Sink.held c.close.new.sink) c.in_ok-gather.gather c.write_all-ended.new.gather c.in_ok-gather.ensures (λ xs. after_text c.args.opened.now.text.items (file_text c.args.port channels (new_clock c.args.opened.now.hub.tick) xs)) (prepend_known c.in_ok-intake.intake (g.S.Source.left c.args.source.now)) c.write_all-ended.result c.close.result
    (for_one (Numbered c.args.opened.now.ids.items) c.write_all-ended.result _ channels numbered c.write_all-ended.ensures.text)
    (stop_for_one (Numbered c.args.opened.now.ids.items) c.write_all-ended.result _ channels numbered c.write_all-ended.ensures.front)
    (λ q. ap g.K.Sink.held (c.close.ensures.untouched q)) front.0 front.1)

pub returns-clause-read : goal.returns-clause-read
returns-clause-read g c = λ e channels numbered.
    let kept = ap (λ (k : List ℕ). prepend_known k (g.S.Source.left c.args.source.now)) c.in_ok-intake.ensures in
    let was = ended_by_source _ _ c.write_all-ended.result c.close.result c.close.ensures.ends e in
    let lines = subst (λ (w : List ℕ). IfBothTold (prepend_known c.in_ok-intake.intake (g.S.Source.left c.args.source.now)) (g.S.Source.left c.write_all-ended.new.source) (HasLinesOf (file_events c.args.port channels (new_clock c.args.opened.now.hub.tick)) (g.K.Sink.held c.args.sink.now) (g.K.Sink.held c.write_all-ended.new.sink) (w ++ c.args.opened.now.text.items) c.write_all-ended.new.gather)) c.in_ok-gather.ensures (c.write_all-ended.ensures.read was channels numbered) in
    let later = c.write_all-ended.ensures.cause.write_later in
    either (c.close.ensures.read was)
    (λ all. subst (λ (o : Option (List ℕ)). IfBothTold o (g.S.Source.left c.write_all-ended.new.source) (HasLinesOf (file_events c.args.port channels (new_clock c.args.opened.now.hub.tick)) (g.K.Sink.held c.args.sink.now) (g.K.Sink.held c.close.new.sink) c.args.opened.now.text.items [])) kept
    (both_told (prepend_known c.in_ok-intake.intake (g.S.Source.left c.args.source.now)) (g.S.Source.left c.write_all-ended.new.source) _ _ (λ xs ys h. lines_gone (g.K.Sink.held c.args.sink.now) (g.K.Sink.held c.write_all-ended.new.sink) (g.K.Sink.held c.close.new.sink) c.args.opened.now.text.items c.write_all-ended.new.gather (file_events c.args.port channels (new_clock c.args.opened.now.hub.tick)) xs ys h all) lines))
    (rose_since (g.K.Sink.faults c.args.sink.now) (g.K.Sink.faults c.write_all-ended.new.sink) (g.K.Sink.faults c.close.new.sink) later)

pub returns-clause-cause : goal.returns-clause-cause
returns-clause-cause g c =
    closed_cause _ _ _ _ _ c.write_all-ended.result c.close.result c.write_all-ended.ensures.cause c.close.ensures.ends c.close.ensures.later

pub returns-clause-steady : goal.returns-clause-steady
returns-clause-steady g c = λ s channels numbered.
    let kept = ap (λ (k : List ℕ). prepend_known k (g.S.Source.left c.args.source.now)) c.in_ok-intake.ensures in
    subst (λ (o : Option (List ℕ)). IfTold o (λ xs. g.K.Sink.is_steady c.args.sink.now (length (after_text c.args.opened.now.text.items (file_text c.args.port channels (new_clock c.args.opened.now.hub.tick) xs)).text) → OnlyMemoryStops c.close.result (Unit {0}))) kept
    (told_gives (prepend_known c.in_ok-intake.intake (g.S.Source.left c.args.source.now)) _ _ (λ xs has. λ h. c.close.ensures.steady 0 (has 0 (room_first (g.K.Sink.is_steady c.args.sink.now) c.in_ok-gather.gather (after_text c.args.opened.now.text.items (file_text c.args.port channels (new_clock c.args.opened.now.hub.tick) xs)).text c.in_ok-gather.ensures h)))
    (c.write_all-ended.ensures.steady s channels numbered))
