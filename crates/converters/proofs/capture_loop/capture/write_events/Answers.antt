use Rattle.std.proofs.Common.{subst}
use Rattle.std.specs.Io.KnownBytes.{prepend_known}
use Rattle.std.proofs.lemmas.Result.{IfOk-weaker, IfErr-weaker}
use Rattle.trace_loop.specs.declared.Stop.TheVariants.{Read}
use Rattle.trace_loop.proofs.Whole.{told_all}
use Rattle.trace_loop.proofs.Writing.{unwritten}
use Rattle.converters.specs.capture_loop.{HasOrder, file_text, new_clock}
use Rattle.converters.proofs.capture_loop.Closing.{never_err, never_ok, not_refused, other_end}
use Rattle.converters.proofs.capture_loop.Heading.{order_refuses, order_refuses_steadily, order_reads, order_ends, order_writes, order_stops, order_taken, order_steady, stopped_later}
use Rattle.converters.proofs.capture_loop.capture.write_events.Goals as goal

pub returns-in-Err-clause-journal : goal.returns-in-Err-clause-journal
returns-in-Err-clause-journal g c = λ e. absurd (never_ok _ _ e)

pub returns-in-Err-clause-ended : goal.returns-in-Err-clause-ended
returns-in-Err-clause-ended g c = λ e. absurd (never_ok _ _ e)

pub returns-in-Err-clause-front : goal.returns-in-Err-clause-front
returns-in-Err-clause-front g c = λ channels numbered.
    told_all (prepend_known c.args.intake.now (g.S.Source.left c.args.source.now)) _ (λ xs. unwritten (g.K.Sink.held c.args.sink.now) c.args.gather.now (file_text c.args.port channels (new_clock c.args.opened.now.hub.tick) xs).text Read)

pub returns-in-Err-clause-read : goal.returns-in-Err-clause-read
returns-in-Err-clause-read g c = λ e channels numbered.
    order_reads c.args.port channels (new_clock c.args.opened.now.hub.tick) (g.K.Sink.held c.args.sink.now) c.args.gather.now (prepend_known c.args.intake.now (g.S.Source.left c.args.source.now)) c.read_order.new.intake (g.S.Source.left c.read_order.new.source) c.in-Err.ensures.same c.in-Err.ensures.unread

pub returns-in-Err-clause-steady : goal.returns-in-Err-clause-steady
returns-in-Err-clause-steady g c = λ s channels numbered.
    told_all (prepend_known c.args.intake.now (g.S.Source.left c.args.source.now)) _ (λ xs room h. absurd (c.in-Err.ensures.steady s))

pub returns-in-Ok-Err-clause-text : goal.returns-in-Ok-Err-clause-text
returns-in-Ok-Err-clause-text g c = λ channels numbered.
    let order = subst (HasOrder (prepend_known c.args.intake.now (g.S.Source.left c.args.source.now)) (prepend_known c.read_order.new.intake (g.S.Source.left c.read_order.new.source))) c.in-Ok-Err.field-0-is c.in-Ok-Err.ensures.order in
    order_refuses c.args.port channels (new_clock c.args.opened.now.hub.tick) (g.K.Sink.held c.args.sink.now) c.args.gather.now c.in-Ok-Err.fault (prepend_known c.args.intake.now (g.S.Source.left c.args.source.now)) (prepend_known c.read_order.new.intake (g.S.Source.left c.read_order.new.source)) order

pub returns-in-Ok-Err-clause-steady : goal.returns-in-Ok-Err-clause-steady
returns-in-Ok-Err-clause-steady g c = λ s channels numbered.
    let order = subst (HasOrder (prepend_known c.args.intake.now (g.S.Source.left c.args.source.now)) (prepend_known c.read_order.new.intake (g.S.Source.left c.read_order.new.source))) c.in-Ok-Err.field-0-is c.in-Ok-Err.ensures.order in
    order_refuses_steadily c.args.port channels (new_clock c.args.opened.now.hub.tick) (g.K.Sink.is_steady c.args.sink.now) c.args.gather.now c.in-Ok-Err.fault (prepend_known c.args.intake.now (g.S.Source.left c.args.source.now)) (prepend_known c.read_order.new.intake (g.S.Source.left c.read_order.new.source)) order

pub returns-in-Ok-Err-clause-journal : goal.returns-in-Ok-Err-clause-journal
returns-in-Ok-Err-clause-journal g c = λ e. absurd (other_end _ (not_refused _ _) e)

pub returns-in-Ok-Err-clause-ended : goal.returns-in-Ok-Err-clause-ended
returns-in-Ok-Err-clause-ended g c = λ e. absurd (other_end _ (not_refused _ _) e)

pub returns-in-Ok-Err-clause-read : goal.returns-in-Ok-Err-clause-read
returns-in-Ok-Err-clause-read g c = λ e. absurd (never_err _ _ e)

pub returns-in-Ok-Ok-clause-text : goal.returns-in-Ok-Ok-clause-text
returns-in-Ok-Ok-clause-text g c =
    let order = subst (HasOrder (prepend_known c.args.intake.now (g.S.Source.left c.args.source.now)) (prepend_known c.read_order.new.intake (g.S.Source.left c.read_order.new.source))) c.in-Ok-Ok.field-0-is c.in-Ok-Ok.ensures.order in
    IfOk-weaker c.write_records.result _ _ (λ end h channels numbered. order_ends c.args.port channels c.args.opened.now.hub.tick c.in-Ok-Ok.endian (g.K.Sink.held c.args.sink.now) (g.K.Sink.held c.write_records.new.sink) c.args.gather.now c.write_records.new.gather end (prepend_known c.args.intake.now (g.S.Source.left c.args.source.now)) (prepend_known c.read_order.new.intake (g.S.Source.left c.read_order.new.source)) order (h channels numbered)) c.write_records.ensures.text

pub returns-in-Ok-Ok-clause-journal : goal.returns-in-Ok-Ok-clause-journal
returns-in-Ok-Ok-clause-journal g c = λ e channels numbered.
    let order = subst (HasOrder (prepend_known c.args.intake.now (g.S.Source.left c.args.source.now)) (prepend_known c.read_order.new.intake (g.S.Source.left c.read_order.new.source))) c.in-Ok-Ok.field-0-is c.in-Ok-Ok.ensures.order in
    order_writes c.args.port channels c.args.opened.now.hub.tick c.in-Ok-Ok.endian (prepend_known c.args.intake.now (g.S.Source.left c.args.source.now)) (prepend_known c.read_order.new.intake (g.S.Source.left c.read_order.new.source)) order (c.write_records.ensures.journal e channels numbered)

pub returns-in-Ok-Ok-clause-front : goal.returns-in-Ok-Ok-clause-front
returns-in-Ok-Ok-clause-front g c =
    let order = subst (HasOrder (prepend_known c.args.intake.now (g.S.Source.left c.args.source.now)) (prepend_known c.read_order.new.intake (g.S.Source.left c.read_order.new.source))) c.in-Ok-Ok.field-0-is c.in-Ok-Ok.ensures.order in
    IfErr-weaker c.write_records.result _ _ (λ stop h channels numbered. order_stops c.args.port channels c.args.opened.now.hub.tick c.in-Ok-Ok.endian (g.K.Sink.held c.args.sink.now) (g.K.Sink.held c.write_records.new.sink) c.args.gather.now c.write_records.new.gather stop (prepend_known c.args.intake.now (g.S.Source.left c.args.source.now)) (prepend_known c.read_order.new.intake (g.S.Source.left c.read_order.new.source)) order (h channels numbered)) c.write_records.ensures.front

pub returns-in-Ok-Ok-clause-read : goal.returns-in-Ok-Ok-clause-read
returns-in-Ok-Ok-clause-read g c = λ e channels numbered.
    let order = subst (HasOrder (prepend_known c.args.intake.now (g.S.Source.left c.args.source.now)) (prepend_known c.read_order.new.intake (g.S.Source.left c.read_order.new.source))) c.in-Ok-Ok.field-0-is c.in-Ok-Ok.ensures.order in
    order_taken c.args.port channels c.args.opened.now.hub.tick c.in-Ok-Ok.endian (g.K.Sink.held c.args.sink.now) (g.K.Sink.held c.write_records.new.sink) c.args.gather.now c.write_records.new.gather (prepend_known c.args.intake.now (g.S.Source.left c.args.source.now)) (prepend_known c.read_order.new.intake (g.S.Source.left c.read_order.new.source)) (g.S.Source.left c.write_records.new.source) order (c.write_records.ensures.read e channels numbered)

pub returns-in-Ok-Ok-clause-cause : goal.returns-in-Ok-Ok-clause-cause
returns-in-Ok-Ok-clause-cause g c =
    stopped_later _ _ _ _ _ c.write_records.result c.read_order.ensures.cause.later c.write_records.ensures.cause

pub returns-in-Ok-Ok-clause-steady : goal.returns-in-Ok-Ok-clause-steady
returns-in-Ok-Ok-clause-steady g c = λ s channels numbered.
    let order = subst (HasOrder (prepend_known c.args.intake.now (g.S.Source.left c.args.source.now)) (prepend_known c.read_order.new.intake (g.S.Source.left c.read_order.new.source))) c.in-Ok-Ok.field-0-is c.in-Ok-Ok.ensures.order in
    order_steady c.args.port channels c.args.opened.now.hub.tick c.in-Ok-Ok.endian (g.K.Sink.is_steady c.args.sink.now) (g.K.Sink.is_steady c.write_records.new.sink) c.args.gather.now c.write_records.new.gather c.write_records.result (prepend_known c.args.intake.now (g.S.Source.left c.args.source.now)) (prepend_known c.read_order.new.intake (g.S.Source.left c.read_order.new.source)) order (c.write_records.ensures.steady (c.in-Ok-Ok.ensures.steady s) channels numbered)
