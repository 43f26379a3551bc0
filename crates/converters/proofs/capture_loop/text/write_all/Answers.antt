use Rattle.std.proofs.Common.{ℕ, ◌+◌, List, ◌++◌, length, sym, subst}
use Rattle.std.proofs.lemmas.Result.{err_from_is_err_and, IfOk-weaker, IfErr-weaker}
use Rattle.std.specs.Io.KnownBytes.{prepend_known}
use Rattle.line_io.specs.Passes.{Passes}
use Rattle.rams_model.specs.declared.Status.TheVariants.{Done}
use Rattle.trace_loop.specs.{StopsIn}
use Rattle.trace_loop.proofs.Running.{told_gives}
use Rattle.trace_loop.proofs.Whole.{told_all}
use Rattle.converters.specs.capture_loop.{file_events, file_text, new_clock}
use Rattle.trace_loop.proofs.Stopping.{err_so, only_err}
use Rattle.converters.proofs.capture_loop.Closing.{both_told, ends_behind, lines_behind, not_by_sink, stops_behind_text}
use Rattle.converters.proofs.capture_loop.Stopping.{first_fits, first_stops, not_ok, stopped_behind, then_fits}
use Rattle.converters.proofs.capture_loop.text.write_all.Goals as goal

pub returns-in_err-put-clause-journal : goal.returns-in_err-put-clause-journal
returns-in_err-put-clause-journal g c = λ e.
    let p = err_from_is_err_and c.from_residual.result c.from_residual.ensures.1 in
    absurd (not_ok c.from_residual.result p.0 Done p.1 e)

pub returns-in_err-put-clause-ended : goal.returns-in_err-put-clause-ended
returns-in_err-put-clause-ended g c = λ e.
    let p = err_from_is_err_and c.from_residual.result c.from_residual.ensures.1 in
    absurd (not_ok c.from_residual.result p.0 Done p.1 e)

pub returns-in_err-put-clause-front : goal.returns-in_err-put-clause-front
returns-in_err-put-clause-front g c =
    let p = err_from_is_err_and c.from_residual.result c.from_residual.ensures.1 in
    let stops = subst (λ (t : List ℕ). StopsIn (g.K.Sink.held c.args.sink.now) (g.K.Sink.held c.put.new.sink) (c.args.gather.now ++ t) c.put.new.gather c.in_err-put.field-0.0) c.deref.ensures.value c.in_err-put.ensures.front in
    err_so c.from_residual.result p.0 c.in_err-put.field-0.0 _ p.1 p.2
    (λ channels numbered. told_all (prepend_known c.args.intake.now (g.S.Source.left c.args.source.now)) _ (λ xs. first_stops (g.K.Sink.held c.args.sink.now) (g.K.Sink.held c.put.new.sink) c.args.gather.now c.args.opened.now.text.items (file_text c.args.port channels (new_clock c.args.opened.now.hub.tick) xs).text c.put.new.gather c.in_err-put.field-0.0 stops))

pub returns-in_err-put-clause-read : goal.returns-in_err-put-clause-read
returns-in_err-put-clause-read g c = λ e.
    let p = err_from_is_err_and c.from_residual.result c.from_residual.ensures.1 in
    absurd (not_by_sink _ _ c.from_residual.result p.0 c.in_err-put.field-0.0 p.1 p.2 c.in_err-put.ensures.cause.cause e)

pub returns-in_err-put-clause-steady : goal.returns-in_err-put-clause-steady
returns-in_err-put-clause-steady g c = λ s channels numbered.
    let p = err_from_is_err_and c.from_residual.result c.from_residual.ensures.1 in
    told_all (prepend_known c.args.intake.now (g.S.Source.left c.args.source.now)) _ (λ xs room h. only_err c.from_residual.result p.0 c.in_err-put.field-0.0 _ p.1 p.2
    (c.in_err-put.ensures.steady (length (file_text c.args.port channels (new_clock c.args.opened.now.hub.tick) xs).text + room)
    (subst (λ (t : List ℕ). g.K.Sink.is_steady c.args.sink.now (length c.args.gather.now + length t + (length (file_text c.args.port channels (new_clock c.args.opened.now.hub.tick) xs).text + room))) (sym c.deref.ensures.value)
    (first_fits (g.K.Sink.is_steady c.args.sink.now) c.args.gather.now c.args.opened.now.text.items (file_text c.args.port channels (new_clock c.args.opened.now.hub.tick) xs).text room h))))

pub returns-clause-text : goal.returns-clause-text
returns-clause-text g c =
    IfOk-weaker c.write_file.result _ _
    (λ status h channels numbered. told_gives (prepend_known c.args.intake.now (g.S.Source.left c.args.source.now)) _ _ (λ xs ends. ends_behind (g.K.Sink.held c.args.sink.now) (g.K.Sink.held c.put.new.sink) (g.K.Sink.held c.write_file.new.sink) c.args.gather.now c.args.opened.now.text.items c.put.new.gather c.write_file.new.gather (subst (λ (t : List ℕ). Passes (g.K.Sink.held c.args.sink.now) (g.K.Sink.held c.put.new.sink) (c.args.gather.now ++ t) c.put.new.gather) c.deref.ensures.value c.in_ok-put.ensures.all) (file_text c.args.port channels (new_clock c.args.opened.now.hub.tick) xs) status ends) (h channels numbered))
    c.write_file.ensures.text

pub returns-clause-front : goal.returns-clause-front
returns-clause-front g c =
    IfErr-weaker c.write_file.result _ _
    (λ stop h channels numbered. told_gives (prepend_known c.args.intake.now (g.S.Source.left c.args.source.now)) _ _ (λ xs stops. stops_behind_text (g.K.Sink.held c.args.sink.now) (g.K.Sink.held c.put.new.sink) (g.K.Sink.held c.write_file.new.sink) c.args.gather.now c.args.opened.now.text.items c.put.new.gather c.write_file.new.gather (subst (λ (t : List ℕ). Passes (g.K.Sink.held c.args.sink.now) (g.K.Sink.held c.put.new.sink) (c.args.gather.now ++ t) c.put.new.gather) c.deref.ensures.value c.in_ok-put.ensures.all) (file_text c.args.port channels (new_clock c.args.opened.now.hub.tick) xs) stop stops) (h channels numbered))
    c.write_file.ensures.front

pub returns-clause-read : goal.returns-clause-read
returns-clause-read g c = λ e channels numbered.
    both_told (prepend_known c.args.intake.now (g.S.Source.left c.args.source.now)) (g.S.Source.left c.write_file.new.source) _ _ (λ xs ys h. lines_behind (g.K.Sink.held c.args.sink.now) (g.K.Sink.held c.put.new.sink) (g.K.Sink.held c.write_file.new.sink) c.args.gather.now c.args.opened.now.text.items c.put.new.gather c.write_file.new.gather (subst (λ (t : List ℕ). Passes (g.K.Sink.held c.args.sink.now) (g.K.Sink.held c.put.new.sink) (c.args.gather.now ++ t) c.put.new.gather) c.deref.ensures.value c.in_ok-put.ensures.all) (file_events c.args.port channels (new_clock c.args.opened.now.hub.tick)) xs ys h) (c.write_file.ensures.read e channels numbered)

pub returns-clause-cause : goal.returns-clause-cause
returns-clause-cause g c =
    stopped_behind _ _ _ _ _ c.write_file.result c.put.ensures.cause.later c.write_file.ensures.cause

pub returns-clause-steady : goal.returns-clause-steady
returns-clause-steady g c = λ s channels numbered.
    told_gives (prepend_known c.args.intake.now (g.S.Source.left c.args.source.now)) _ _ (λ xs has. λ room h. has room
    (then_fits (g.K.Sink.is_steady c.put.new.sink) c.put.new.gather (file_text c.args.port channels (new_clock c.args.opened.now.hub.tick) xs).text room
    (c.in_ok-put.ensures.steady (length (file_text c.args.port channels (new_clock c.args.opened.now.hub.tick) xs).text + room)
    (subst (λ (t : List ℕ). g.K.Sink.is_steady c.args.sink.now (length c.args.gather.now + length t + (length (file_text c.args.port channels (new_clock c.args.opened.now.hub.tick) xs).text + room))) (sym c.deref.ensures.value)
    (first_fits (g.K.Sink.is_steady c.args.sink.now) c.args.gather.now c.args.opened.now.text.items (file_text c.args.port channels (new_clock c.args.opened.now.hub.tick) xs).text room h)))))
    (c.write_file.ensures.steady s channels numbered)
