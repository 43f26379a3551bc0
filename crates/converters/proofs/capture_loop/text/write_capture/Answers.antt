use Rattle.std.proofs.Common.{◌≡◌, ℕ, List, length, Option, refl, sym, subst, inl}
use Rattle.std.proofs.lemmas.Result.{err_from_is_err_and, IfOk-weaker}
use Rattle.std.specs.Io.KnownBytes.{Appends, prepend_known}
use Rattle.line_io.specs.Passes.{Passes}
use Rattle.line_io.proofs.Passing.{Passes-none}
use Rattle.rams_model.specs.declared.Status.TheVariants.{Done}
use Rattle.trace_loop.specs.trace_book.trace_serving.{Outcome, refused}
use Rattle.trace_loop.specs.declared.{Stop.TheVariants.Memory, head_loop.head.Head.Head}
use Rattle.trace_loop.specs.{IfBothTold, IfTold}
use Rattle.trace_loop.proofs.Running.{told_gives}
use Rattle.trace_loop.proofs.Whole.{told_all}
use Rattle.trace_loop.specs.head_loop.{HasRead, IsCutBefore, IsHeadOf, LeavesBehind, behind_head, head_end}
use Rattle.converters.specs.capture_loop.{capture_text}
use Rattle.trace_loop.proofs.Stopping.{only_err}
use Rattle.converters.proofs.capture_loop.Closing.{never_read}
use Rattle.converters.proofs.capture_loop.Heading.{stopped_later}
use Rattle.converters.proofs.capture_loop.Stopping.{both_ok, not_ok, read_was, stopped_alone}
use Rattle.converters.proofs.capture_loop.Whole.{bad_ends, bad_is_not_done, cut_read, keeps_nothing, lawful_front, lawful_read, lawful_steady, lawful_text, lawful_trace, memory_never_reads, memory_stopped, read_stopped, refused_is}
use Rattle.converters.proofs.capture_loop.text.write_capture.Goals as goal

pub returns-in_err-reader-clause-journal : goal.returns-in_err-reader-clause-journal
returns-in_err-reader-clause-journal g c = λ e.
    let p = err_from_is_err_and c.from_residual.result c.from_residual.ensures.1 in
    absurd (not_ok c.from_residual.result p.0 Done p.1 e)

pub returns-in_err-reader-clause-ended : goal.returns-in_err-reader-clause-ended
returns-in_err-reader-clause-ended g c = λ e.
    let p = err_from_is_err_and c.from_residual.result c.from_residual.ensures.1 in
    absurd (not_ok c.from_residual.result p.0 Done p.1 e)

pub returns-in_err-reader-clause-front : goal.returns-in_err-reader-clause-front
returns-in_err-reader-clause-front g c =
    told_all (g.S.Source.left c.args.source.now) _ (λ xs. ((capture_text c.args.port xs).text, Passes-none (g.K.Sink.held c.args.sink.now) (capture_text c.args.port xs).text))

pub returns-in_err-reader-clause-read : goal.returns-in_err-reader-clause-read
returns-in_err-reader-clause-read g c = λ e.
    let p = err_from_is_err_and c.from_residual.result c.from_residual.ensures.1 in
    absurd (memory_never_reads c.from_residual.result p.0 p.1 p.2 e)

pub returns-in_err-reader-clause-cause : goal.returns-in_err-reader-clause-cause
returns-in_err-reader-clause-cause g c =
    let p = err_from_is_err_and c.from_residual.result c.from_residual.ensures.1 in
    memory_stopped _ _ c.from_residual.result p.0 p.1 p.2

pub returns-in_err-reader-clause-steady : goal.returns-in_err-reader-clause-steady
returns-in_err-reader-clause-steady g c = λ s.
    let p = err_from_is_err_and c.from_residual.result c.from_residual.ensures.1 in
    told_all (g.S.Source.left c.args.source.now) _ (λ xs h. only_err c.from_residual.result p.0 Memory _ p.1 p.2 refl)

pub returns-in_err-line-clause-journal : goal.returns-in_err-line-clause-journal
returns-in_err-line-clause-journal g c = λ e.
    let p = err_from_is_err_and c.from_residual-in_err-line.result c.from_residual-in_err-line.ensures.1 in
    absurd (not_ok c.from_residual-in_err-line.result p.0 Done p.1 e)

pub returns-in_err-line-clause-ended : goal.returns-in_err-line-clause-ended
returns-in_err-line-clause-ended g c = λ e.
    let p = err_from_is_err_and c.from_residual-in_err-line.result c.from_residual-in_err-line.ensures.1 in
    absurd (not_ok c.from_residual-in_err-line.result p.0 Done p.1 e)

pub returns-in_err-line-clause-front : goal.returns-in_err-line-clause-front
returns-in_err-line-clause-front g c =
    told_all (g.S.Source.left c.args.source.now) _ (λ xs. ((capture_text c.args.port xs).text, Passes-none (g.K.Sink.held c.args.sink.now) (capture_text c.args.port xs).text))

pub returns-in_err-line-clause-read : goal.returns-in_err-line-clause-read
returns-in_err-line-clause-read g c = λ e.
    let p = err_from_is_err_and c.from_residual-in_err-line.result c.from_residual-in_err-line.ensures.1 in
    let later = g.S.Source.left c.read_head.new.source in
    let cut = c.in_err-line.ensures.cut (read_was c.from_residual-in_err-line.result p.0 c.in_err-line.field-0.0 p.1 p.2 e) in
    inl (cut_read c.args.port (g.K.Sink.held c.args.sink.now) (g.S.Source.left c.args.source.now) later (subst (λ (o : Option (List ℕ)). IfBothTold o later IsCutBefore) (keeps_nothing c.in_ok-reader.reader.kept (g.S.Source.left c.args.source.now) c.in_ok-reader.ensures.kept) cut))

pub returns-in_err-line-clause-cause : goal.returns-in_err-line-clause-cause
returns-in_err-line-clause-cause g c =
    let p = err_from_is_err_and c.from_residual-in_err-line.result c.from_residual-in_err-line.ensures.1 in
    read_stopped _ _ _ c.read_head.result c.from_residual-in_err-line.result p.0 c.in_err-line.field-0.0 p.1 p.2 c.in_err-line.ensures.cause.cause c.read_head.ensures.cause.later

pub returns-in_err-line-clause-steady : goal.returns-in_err-line-clause-steady
returns-in_err-line-clause-steady g c = λ s.
    let p = err_from_is_err_and c.from_residual-in_err-line.result c.from_residual-in_err-line.ensures.1 in
    told_all (g.S.Source.left c.args.source.now) _ (λ xs h. only_err c.from_residual-in_err-line.result p.0 c.in_err-line.field-0.0 _ p.1 p.2 (c.in_err-line.ensures.steady s))

pub returns-in-Unlawful-clause-status : goal.returns-in-Unlawful-clause-status
returns-in-Unlawful-clause-status g c =
    bad_ends c.refuse.result c.refuse.ensures.status

pub returns-in-Unlawful-clause-text : goal.returns-in-Unlawful-clause-text
returns-in-Unlawful-clause-text g c =
    let read = subst (λ (o : Option (List ℕ)). IfTold o (λ xs. head_end xs ≡ refused c.in-Unlawful.line c.in-Unlawful.fault)) (keeps_nothing c.in_ok-reader.reader.kept (g.S.Source.left c.args.source.now) c.in_ok-reader.ensures.kept) (subst (λ (h : Head). IfTold (prepend_known c.in_ok-reader.reader.kept (g.S.Source.left c.args.source.now)) (λ xs. HasRead xs h)) c.in-Unlawful.is c.in_ok-line.ensures.read) in
    both_ok c.refuse.result _ _ _
    (λ status is text. told_gives (g.S.Source.left c.args.source.now) _ _ (λ xs e. subst (λ (o : Outcome). (status ≡ o.status) × Appends (g.K.Sink.held c.args.sink.now) (g.K.Sink.held c.refuse.new.sink) o.text) (sym (refused_is c.args.port c.in-Unlawful.line xs c.in-Unlawful.fault e)) (is, text)) read)
    c.refuse.ensures.status c.refuse.ensures.text

pub returns-in-Unlawful-clause-journal : goal.returns-in-Unlawful-clause-journal
returns-in-Unlawful-clause-journal g c = λ e.
    absurd (bad_is_not_done c.refuse.result c.refuse.ensures.status e)

pub returns-in-Unlawful-clause-ended : goal.returns-in-Unlawful-clause-ended
returns-in-Unlawful-clause-ended g c = λ e.
    absurd (bad_is_not_done c.refuse.result c.refuse.ensures.status e)

pub returns-in-Unlawful-clause-front : goal.returns-in-Unlawful-clause-front
returns-in-Unlawful-clause-front g c =
    let read = subst (λ (o : Option (List ℕ)). IfTold o (λ xs. head_end xs ≡ refused c.in-Unlawful.line c.in-Unlawful.fault)) (keeps_nothing c.in_ok-reader.reader.kept (g.S.Source.left c.args.source.now) c.in_ok-reader.ensures.kept) (subst (λ (h : Head). IfTold (prepend_known c.in_ok-reader.reader.kept (g.S.Source.left c.args.source.now)) (λ xs. HasRead xs h)) c.in-Unlawful.is c.in_ok-line.ensures.read) in
    told_gives (g.S.Source.left c.args.source.now) _ _ (λ xs e. subst (λ (o : Outcome). (rest : List ℕ) × Passes (g.K.Sink.held c.args.sink.now) (g.K.Sink.held c.refuse.new.sink) o.text rest) (sym (refused_is c.args.port c.in-Unlawful.line xs c.in-Unlawful.fault e)) c.refuse.ensures.front) read

pub returns-in-Unlawful-clause-read : goal.returns-in-Unlawful-clause-read
returns-in-Unlawful-clause-read g c = λ e.
    absurd (never_read _ _ c.refuse.result c.refuse.ensures.cause e)

pub returns-in-Unlawful-clause-cause : goal.returns-in-Unlawful-clause-cause
returns-in-Unlawful-clause-cause g c =
    stopped_alone _ _ _ _ c.refuse.result c.read_head.ensures.cause.later c.refuse.ensures.cause

pub returns-in-Unlawful-clause-steady : goal.returns-in-Unlawful-clause-steady
returns-in-Unlawful-clause-steady g c = λ s.
    let read = subst (λ (o : Option (List ℕ)). IfTold o (λ xs. head_end xs ≡ refused c.in-Unlawful.line c.in-Unlawful.fault)) (keeps_nothing c.in_ok-reader.reader.kept (g.S.Source.left c.args.source.now) c.in_ok-reader.ensures.kept) (subst (λ (h : Head). IfTold (prepend_known c.in_ok-reader.reader.kept (g.S.Source.left c.args.source.now)) (λ xs. HasRead xs h)) c.in-Unlawful.is c.in_ok-line.ensures.read) in
    told_gives (g.S.Source.left c.args.source.now) _ _ (λ xs e. λ h. c.refuse.ensures.steady (subst (λ (o : Outcome). g.K.Sink.is_steady c.args.sink.now (length o.text)) (refused_is c.args.port c.in-Unlawful.line xs c.in-Unlawful.fault e) h)) read

pub returns-clause-text : goal.returns-clause-text
returns-clause-text g c =
    let same = keeps_nothing c.in_ok-reader.reader.kept (g.S.Source.left c.args.source.now) c.in_ok-reader.ensures.kept in
    let read = subst (λ (o : Option (List ℕ)). IfTold o (λ xs. IsHeadOf xs c.in-Lawful.opened.hub c.in-Lawful.opened.ids.items c.in-Lawful.opened.text.items)) same (subst (λ (h : Head). IfTold (prepend_known c.in_ok-reader.reader.kept (g.S.Source.left c.args.source.now)) (λ xs. HasRead xs h)) c.in-Lawful.is c.in_ok-line.ensures.read) in
    let rest = subst (λ (k : List ℕ). IfBothTold (g.S.Source.left c.args.source.now) (prepend_known k (g.S.Source.left c.read_head.new.source)) (λ xs ys. ys ≡ behind_head xs)) (sym c.kept.ensures.kept)
    (subst (λ (o : Option (List ℕ)). IfBothTold o (prepend_known c.read_head.new.reader.kept (g.S.Source.left c.read_head.new.source)) (λ xs ys. ys ≡ behind_head xs)) same (subst (λ (h : Head). IfBothTold (prepend_known c.in_ok-reader.reader.kept (g.S.Source.left c.args.source.now)) (prepend_known c.read_head.new.reader.kept (g.S.Source.left c.read_head.new.source)) (LeavesBehind h)) c.in-Lawful.is c.in_ok-line.ensures.left)) in
    IfOk-weaker c.write_behind.result _ _ (λ status h. lawful_text c.heads_open_new_channels.ensures.new c.args.port c.in-Lawful.opened.hub c.in-Lawful.opened.ids.items c.in-Lawful.opened.text.items (g.S.Source.left c.args.source.now) (prepend_known c.kept.result.now (g.S.Source.left c.read_head.new.source)) read rest (g.K.Sink.held c.args.sink.now) (g.K.Sink.held c.write_behind.new.sink) status h) c.write_behind.ensures.text

pub returns-clause-journal : goal.returns-clause-journal
returns-clause-journal g c = λ e.
    let same = keeps_nothing c.in_ok-reader.reader.kept (g.S.Source.left c.args.source.now) c.in_ok-reader.ensures.kept in
    let read = subst (λ (o : Option (List ℕ)). IfTold o (λ xs. IsHeadOf xs c.in-Lawful.opened.hub c.in-Lawful.opened.ids.items c.in-Lawful.opened.text.items)) same (subst (λ (h : Head). IfTold (prepend_known c.in_ok-reader.reader.kept (g.S.Source.left c.args.source.now)) (λ xs. HasRead xs h)) c.in-Lawful.is c.in_ok-line.ensures.read) in
    let rest = subst (λ (k : List ℕ). IfBothTold (g.S.Source.left c.args.source.now) (prepend_known k (g.S.Source.left c.read_head.new.source)) (λ xs ys. ys ≡ behind_head xs)) (sym c.kept.ensures.kept)
    (subst (λ (o : Option (List ℕ)). IfBothTold o (prepend_known c.read_head.new.reader.kept (g.S.Source.left c.read_head.new.source)) (λ xs ys. ys ≡ behind_head xs)) same (subst (λ (h : Head). IfBothTold (prepend_known c.in_ok-reader.reader.kept (g.S.Source.left c.args.source.now)) (prepend_known c.read_head.new.reader.kept (g.S.Source.left c.read_head.new.source)) (LeavesBehind h)) c.in-Lawful.is c.in_ok-line.ensures.left)) in
    lawful_trace c.heads_open_new_channels.ensures.new c.args.port c.in-Lawful.opened.hub c.in-Lawful.opened.ids.items c.in-Lawful.opened.text.items (g.S.Source.left c.args.source.now) (prepend_known c.kept.result.now (g.S.Source.left c.read_head.new.source)) read rest c.runs_of_journals.ensures.text (c.write_behind.ensures.journal e)

pub returns-clause-ended : goal.returns-clause-ended
returns-clause-ended g c = λ e.
    c.write_behind.ensures.ended e

pub returns-clause-front : goal.returns-clause-front
returns-clause-front g c =
    let same = keeps_nothing c.in_ok-reader.reader.kept (g.S.Source.left c.args.source.now) c.in_ok-reader.ensures.kept in
    let read = subst (λ (o : Option (List ℕ)). IfTold o (λ xs. IsHeadOf xs c.in-Lawful.opened.hub c.in-Lawful.opened.ids.items c.in-Lawful.opened.text.items)) same (subst (λ (h : Head). IfTold (prepend_known c.in_ok-reader.reader.kept (g.S.Source.left c.args.source.now)) (λ xs. HasRead xs h)) c.in-Lawful.is c.in_ok-line.ensures.read) in
    let rest = subst (λ (k : List ℕ). IfBothTold (g.S.Source.left c.args.source.now) (prepend_known k (g.S.Source.left c.read_head.new.source)) (λ xs ys. ys ≡ behind_head xs)) (sym c.kept.ensures.kept)
    (subst (λ (o : Option (List ℕ)). IfBothTold o (prepend_known c.read_head.new.reader.kept (g.S.Source.left c.read_head.new.source)) (λ xs ys. ys ≡ behind_head xs)) same (subst (λ (h : Head). IfBothTold (prepend_known c.in_ok-reader.reader.kept (g.S.Source.left c.args.source.now)) (prepend_known c.read_head.new.reader.kept (g.S.Source.left c.read_head.new.source)) (LeavesBehind h)) c.in-Lawful.is c.in_ok-line.ensures.left)) in
    lawful_front c.heads_open_new_channels.ensures.new c.args.port c.in-Lawful.opened.hub c.in-Lawful.opened.ids.items c.in-Lawful.opened.text.items (g.S.Source.left c.args.source.now) (prepend_known c.kept.result.now (g.S.Source.left c.read_head.new.source)) read rest (g.K.Sink.held c.args.sink.now) (g.K.Sink.held c.write_behind.new.sink) c.write_behind.ensures.front

pub returns-clause-read : goal.returns-clause-read
returns-clause-read g c = λ e.
    let same = keeps_nothing c.in_ok-reader.reader.kept (g.S.Source.left c.args.source.now) c.in_ok-reader.ensures.kept in
    let read = subst (λ (o : Option (List ℕ)). IfTold o (λ xs. IsHeadOf xs c.in-Lawful.opened.hub c.in-Lawful.opened.ids.items c.in-Lawful.opened.text.items)) same (subst (λ (h : Head). IfTold (prepend_known c.in_ok-reader.reader.kept (g.S.Source.left c.args.source.now)) (λ xs. HasRead xs h)) c.in-Lawful.is c.in_ok-line.ensures.read) in
    let rest = subst (λ (k : List ℕ). IfBothTold (g.S.Source.left c.args.source.now) (prepend_known k (g.S.Source.left c.read_head.new.source)) (λ xs ys. ys ≡ behind_head xs)) (sym c.kept.ensures.kept)
    (subst (λ (o : Option (List ℕ)). IfBothTold o (prepend_known c.read_head.new.reader.kept (g.S.Source.left c.read_head.new.source)) (λ xs ys. ys ≡ behind_head xs)) same (subst (λ (h : Head). IfBothTold (prepend_known c.in_ok-reader.reader.kept (g.S.Source.left c.args.source.now)) (prepend_known c.read_head.new.reader.kept (g.S.Source.left c.read_head.new.source)) (LeavesBehind h)) c.in-Lawful.is c.in_ok-line.ensures.left)) in
    lawful_read c.heads_open_new_channels.ensures.new c.args.port c.in-Lawful.opened.hub c.in-Lawful.opened.ids.items c.in-Lawful.opened.text.items (g.S.Source.left c.args.source.now) (prepend_known c.kept.result.now (g.S.Source.left c.read_head.new.source)) read rest (g.K.Sink.held c.args.sink.now) (g.K.Sink.held c.write_behind.new.sink) (g.S.Source.left c.write_behind.new.source) _ (c.write_behind.ensures.read e)

pub returns-clause-cause : goal.returns-clause-cause
returns-clause-cause g c =
    stopped_later _ _ _ _ _ c.write_behind.result c.read_head.ensures.cause.later c.write_behind.ensures.cause

pub returns-clause-steady : goal.returns-clause-steady
returns-clause-steady g c = λ s.
    let same = keeps_nothing c.in_ok-reader.reader.kept (g.S.Source.left c.args.source.now) c.in_ok-reader.ensures.kept in
    let read = subst (λ (o : Option (List ℕ)). IfTold o (λ xs. IsHeadOf xs c.in-Lawful.opened.hub c.in-Lawful.opened.ids.items c.in-Lawful.opened.text.items)) same (subst (λ (h : Head). IfTold (prepend_known c.in_ok-reader.reader.kept (g.S.Source.left c.args.source.now)) (λ xs. HasRead xs h)) c.in-Lawful.is c.in_ok-line.ensures.read) in
    let rest = subst (λ (k : List ℕ). IfBothTold (g.S.Source.left c.args.source.now) (prepend_known k (g.S.Source.left c.read_head.new.source)) (λ xs ys. ys ≡ behind_head xs)) (sym c.kept.ensures.kept)
    (subst (λ (o : Option (List ℕ)). IfBothTold o (prepend_known c.read_head.new.reader.kept (g.S.Source.left c.read_head.new.source)) (λ xs ys. ys ≡ behind_head xs)) same (subst (λ (h : Head). IfBothTold (prepend_known c.in_ok-reader.reader.kept (g.S.Source.left c.args.source.now)) (prepend_known c.read_head.new.reader.kept (g.S.Source.left c.read_head.new.source)) (LeavesBehind h)) c.in-Lawful.is c.in_ok-line.ensures.left)) in
    lawful_steady c.heads_open_new_channels.ensures.new c.args.port c.in-Lawful.opened.hub c.in-Lawful.opened.ids.items c.in-Lawful.opened.text.items (g.S.Source.left c.args.source.now) (prepend_known c.kept.result.now (g.S.Source.left c.read_head.new.source)) read rest (g.K.Sink.is_steady c.args.sink.now) _ (c.write_behind.ensures.steady (c.in_ok-line.ensures.steady s))
