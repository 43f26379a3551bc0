use Rattle.std.proofs.Common.{Err, refl, sym, ap, ◌∙◌}
use Rattle.serve_loop.proofs.Steps.{each_error}
use Rattle.takeover.proofs.takeover_loop.Over.{cut_closed, err_ends, follow_cause, follow_stopped, given_at, lines_room, never_reads, nothing_alone, only_memory, same_stop, served_cause}
use Rattle.takeover.proofs.takeover_loop.taking.take_over.Goals as goal

pub returns-in_err-reading-clause-stopped : goal.returns-in_err-reading-clause-stopped
returns-in_err-reading-clause-stopped g c = λ given is. each_error c.from_residual.result _ (λ stop. nothing_alone given (g.K.Sink.held c.args.sink.now) (g.W.Wire.sent c.args.wire.now))

pub returns-in-Ok-clause-ended : goal.returns-in-Ok-clause-ended
returns-in-Ok-clause-ended g c = λ given is.
    c.go_on.ensures.ended given (g.K.Sink.held c.args.sink.now) (given_at given _ _ _ _ _ is) (c.in-Ok.ensures.followed.told given.source is.source_is)

pub returns-in-Ok-clause-stopped : goal.returns-in-Ok-clause-stopped
returns-in-Ok-clause-stopped g c = λ given is.
    c.go_on.ensures.stopped given (g.K.Sink.held c.args.sink.now) (given_at given _ _ _ _ _ is) (c.in-Ok.ensures.followed.told given.source is.source_is)

pub returns-in-Ok-clause-unread : goal.returns-in-Ok-clause-unread
returns-in-Ok-clause-unread g c = λ e. absurd (never_reads _ _ _ _ c.go_on.result c.go_on.ensures.cause e)

pub returns-in-Ok-clause-cause : goal.returns-in-Ok-clause-cause
returns-in-Ok-clause-cause g c = served_cause _ _ _ _ _ _ _ c.go_on.result c.follow.ensures.cause.read_later c.follow.ensures.cause.write_later c.go_on.ensures.cause

pub returns-in-Ok-clause-steady : goal.returns-in-Ok-clause-steady
returns-in-Ok-clause-steady g c = λ given more is s h.
    let fits = c.in-Ok.ensures.steady given.source _ is.source_is s (lines_room given (g.K.Sink.is_steady c.args.sink.now) more.text h.text_fits) in
    c.go_on.ensures.steady given (g.K.Sink.held c.args.sink.now) more (given_at given _ _ _ _ _ is) (c.in-Ok.ensures.followed.told given.source is.source_is) (record { text_fits = fits; datagrams_fit = h.datagrams_fit })

pub returns-in-Err-clause-ended : goal.returns-in-Err-clause-ended
returns-in-Err-clause-ended g c = λ given is. err_ends c.close.result c.in-Err.stop _ c.close.ensures.ends

pub returns-in-Err-clause-stopped : goal.returns-in-Err-clause-stopped
returns-in-Err-clause-stopped g c = λ given is.
    let front = c.close.ensures.prefix in
    each_error c.close.result _
    (λ stop. follow_stopped given (g.K.Sink.held c.args.sink.now) (g.K.Sink.held c.follow.new.sink) (g.K.Sink.held c.close.new.sink) (g.W.Wire.sent c.args.wire.now) c.follow.new.reading.journal front.0 c.in-Err.stop
    (c.in-Err.ensures.stops given.source is.source_is) (λ q. ap g.K.Sink.held (c.close.ensures.untouched (ap Err q))) front.1)

pub returns-in-Err-clause-status : goal.returns-in-Err-clause-status
returns-in-Err-clause-status g c = err_ends c.close.result c.in-Err.stop _ c.close.ensures.ends

pub returns-in-Err-clause-unread : goal.returns-in-Err-clause-unread
returns-in-Err-clause-unread g c = λ e.
    let same = same_stop _ _ (sym c.close.ensures.ends ∙ e) in
    (cut_closed _ _ _ _ _ _ _ (c.in-Err.ensures.cut (ap Err same)) c.close.ensures.prefix.1, refl, refl)

pub returns-in-Err-clause-cause : goal.returns-in-Err-clause-cause
returns-in-Err-clause-cause g c =
    follow_cause _ _ _ _ _ (g.W.Wire.faults c.args.wire.now) c.in-Err.stop c.close.result c.follow.ensures.cause.read_later c.follow.ensures.cause.write_later c.close.ensures.later c.in-Err.ensures.cause.cause c.close.ensures.ends

pub returns-in-Err-clause-steady : goal.returns-in-Err-clause-steady
returns-in-Err-clause-steady g c = λ given more is s h.
    let memory = c.in-Err.ensures.steady given.source _ is.source_is s (lines_room given (g.K.Sink.is_steady c.args.sink.now) more.text h.text_fits) in
    only_memory c.close.result c.in-Err.stop _ c.close.ensures.ends memory
