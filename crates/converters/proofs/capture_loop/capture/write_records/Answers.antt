use Rattle.std.proofs.Common.{refl, ap, subst, ◌∙◌, arith}
use Rattle.std.proofs.lemmas.Result.{err_from_is_err_and}
use Rattle.std.specs.Io.KnownBytes.{prepend_known}
use Rattle.trace_loop.specs.declared.Stop.TheVariants.{Memory, Read}
use Rattle.trace_loop.proofs.Reading.{rose_since}
use Rattle.trace_loop.proofs.Running.{told_gives}
use Rattle.trace_loop.proofs.Whole.{told_all}
use Rattle.converters.specs.declared.capture_loop.records.Next.{Next}
use Rattle.converters.specs.capture_loop.{IsNextWithin, new_clock}
use Rattle.trace_loop.proofs.Stopping.{err_so, write_since}
use Rattle.converters.proofs.capture_loop.Closing.{never_err, never_ok, match_err, memory_not_read, not_by_sink, not_refused, not_too_long, other_end, write_stops_so}
use Rattle.converters.proofs.capture_loop.Filling.{when_full, when_not}
use Rattle.converters.proofs.capture_loop.Running.{running_begins, running_breaks, running_broken, running_crowded, running_ended, running_full, running_goes_on, running_has_room, running_reads, running_stops}
use Rattle.converters.proofs.capture_loop.capture.write_records.Goals as goal

pub loop-count-init : goal.loop-count-init
loop-count-init g c =
    record {
      running = λ channels numbered.
          running_begins c.args.port channels (new_clock c.args.opened.now.hub.tick) c.args.endian (g.K.Sink.held c.args.sink.now) (g.K.Sink.faults c.args.sink.now) (g.K.Sink.is_steady c.args.sink.now) c.args.gather.now (prepend_known c.args.intake.now (g.S.Source.left c.args.source.now)) c.new.result 1000000 (c.new.ensures ∙ ap new_clock c.tick_ms.ensures.value) refl;
      read_later = omega arith;
      write_later = omega arith;
      calm = λ s. s;
    }

pub returns-in-Err-clause-journal : goal.returns-in-Err-clause-journal
returns-in-Err-clause-journal g c = λ e. absurd (never_ok _ _ e)

pub returns-in-Err-clause-ended : goal.returns-in-Err-clause-ended
returns-in-Err-clause-ended g c = λ e. absurd (never_ok _ _ e)

pub returns-in-Err-clause-front : goal.returns-in-Err-clause-front
returns-in-Err-clause-front g c = λ channels numbered.
    let l = c.loop-count in
    let n = c.next_within.new in
    let left = prepend_known c.args.intake.now (g.S.Source.left c.args.source.now) in
    let leaves = prepend_known l.intake (g.S.Source.left l.source) in
    let later = g.S.Source.left n.source in
    running_breaks c.args.port channels (new_clock c.args.opened.now.hub.tick) c.args.endian (g.K.Sink.held c.args.sink.now) (g.K.Sink.faults c.args.sink.now) (g.K.Sink.is_steady c.args.sink.now) c.args.gather.now (g.K.Sink.held l.sink) (g.K.Sink.faults l.sink) (g.K.Sink.is_steady l.sink) l.gather l.progress.due l.progress.room l.count left leaves Read (l.invariant.running channels numbered)

pub returns-in-Err-clause-read : goal.returns-in-Err-clause-read
returns-in-Err-clause-read g c = λ e channels numbered.
    let l = c.loop-count in
    let n = c.next_within.new in
    let left = prepend_known c.args.intake.now (g.S.Source.left c.args.source.now) in
    let leaves = prepend_known l.intake (g.S.Source.left l.source) in
    let later = g.S.Source.left n.source in
    running_reads c.args.port channels (new_clock c.args.opened.now.hub.tick) c.args.endian (g.K.Sink.held c.args.sink.now) (g.K.Sink.faults c.args.sink.now) (g.K.Sink.is_steady c.args.sink.now) c.args.gather.now (g.K.Sink.held l.sink) (g.K.Sink.faults l.sink) (g.K.Sink.is_steady l.sink) l.gather l.progress.due l.progress.room l.count left leaves later n.intake (l.invariant.running channels numbered) c.next_within.ensures.same c.in-Err.ensures.unread

pub returns-in-Err-clause-cause : goal.returns-in-Err-clause-cause
returns-in-Err-clause-cause g c =
    let l = c.loop-count in
    let rose = rose_since _ _ _ l.invariant.read_later c.in-Err.ensures.cause.failed in
    let before = l.invariant.read_later in
    let after = c.next_within.ensures.cause.later in
    record { read_later = omega (arith, before, after); write_later = l.invariant.write_later; cause = rose }

pub returns-in-Err-clause-steady : goal.returns-in-Err-clause-steady
returns-in-Err-clause-steady g c = λ s channels numbered.
    let l = c.loop-count in
    let n = c.next_within.new in
    let left = prepend_known c.args.intake.now (g.S.Source.left c.args.source.now) in
    let leaves = prepend_known l.intake (g.S.Source.left l.source) in
    let later = g.S.Source.left n.source in
    told_all left _ (λ xs room h. absurd (c.in-Err.ensures.steady (l.invariant.calm s)))

pub returns-in-Ok-Ended-clause-text : goal.returns-in-Ok-Ended-clause-text
returns-in-Ok-Ended-clause-text g c = λ channels numbered.
    let l = c.loop-count in
    let n = c.next_within.new in
    let left = prepend_known c.args.intake.now (g.S.Source.left c.args.source.now) in
    let leaves = prepend_known l.intake (g.S.Source.left l.source) in
    let later = g.S.Source.left n.source in
    let at = subst (λ (x : Next). IsNextWithin c.args.endian l.count n.intake later x) c.in-Ok-Ended.field-0-is c.in-Ok-Ended.ensures.next in
    told_gives left _ _ (λ xs q. q.0) (running_ended c.args.port channels (new_clock c.args.opened.now.hub.tick) c.args.endian (g.K.Sink.held c.args.sink.now) (g.K.Sink.faults c.args.sink.now) (g.K.Sink.is_steady c.args.sink.now) c.args.gather.now (g.K.Sink.held l.sink) (g.K.Sink.faults l.sink) (g.K.Sink.is_steady l.sink) l.gather l.progress.due l.progress.room l.count left leaves later n.intake (l.invariant.running channels numbered) c.next_within.ensures.same at.0 at.1)

pub returns-in-Ok-Ended-clause-journal : goal.returns-in-Ok-Ended-clause-journal
returns-in-Ok-Ended-clause-journal g c = λ e channels numbered.
    let l = c.loop-count in
    let n = c.next_within.new in
    let left = prepend_known c.args.intake.now (g.S.Source.left c.args.source.now) in
    let leaves = prepend_known l.intake (g.S.Source.left l.source) in
    let later = g.S.Source.left n.source in
    let at = subst (λ (x : Next). IsNextWithin c.args.endian l.count n.intake later x) c.in-Ok-Ended.field-0-is c.in-Ok-Ended.ensures.next in
    told_gives left _ _ (λ xs q. q.1) (running_ended c.args.port channels (new_clock c.args.opened.now.hub.tick) c.args.endian (g.K.Sink.held c.args.sink.now) (g.K.Sink.faults c.args.sink.now) (g.K.Sink.is_steady c.args.sink.now) c.args.gather.now (g.K.Sink.held l.sink) (g.K.Sink.faults l.sink) (g.K.Sink.is_steady l.sink) l.gather l.progress.due l.progress.room l.count left leaves later n.intake (l.invariant.running channels numbered) c.next_within.ensures.same at.0 at.1)

pub returns-in-Ok-Ended-clause-ended : goal.returns-in-Ok-Ended-clause-ended
returns-in-Ok-Ended-clause-ended g c = λ e.
    let l = c.loop-count in
    let n = c.next_within.new in
    let later = g.S.Source.left n.source in
    let at = subst (λ (x : Next). IsNextWithin c.args.endian l.count n.intake later x) c.in-Ok-Ended.field-0-is c.in-Ok-Ended.ensures.next in
    at.1

pub returns-in-Ok-Ended-clause-steady : goal.returns-in-Ok-Ended-clause-steady
returns-in-Ok-Ended-clause-steady g c = λ s channels numbered.
    let l = c.loop-count in
    let n = c.next_within.new in
    let left = prepend_known c.args.intake.now (g.S.Source.left c.args.source.now) in
    let leaves = prepend_known l.intake (g.S.Source.left l.source) in
    let later = g.S.Source.left n.source in
    let at = subst (λ (x : Next). IsNextWithin c.args.endian l.count n.intake later x) c.in-Ok-Ended.field-0-is c.in-Ok-Ended.ensures.next in
    told_gives left _ _ (λ xs q. q.2) (running_ended c.args.port channels (new_clock c.args.opened.now.hub.tick) c.args.endian (g.K.Sink.held c.args.sink.now) (g.K.Sink.faults c.args.sink.now) (g.K.Sink.is_steady c.args.sink.now) c.args.gather.now (g.K.Sink.held l.sink) (g.K.Sink.faults l.sink) (g.K.Sink.is_steady l.sink) l.gather l.progress.due l.progress.room l.count left leaves later n.intake (l.invariant.running channels numbered) c.next_within.ensures.same at.0 at.1)

pub returns-in-Ok-TooMany-clause-text : goal.returns-in-Ok-TooMany-clause-text
returns-in-Ok-TooMany-clause-text g c = λ channels numbered.
    let l = c.loop-count in
    let n = c.next_within.new in
    let left = prepend_known c.args.intake.now (g.S.Source.left c.args.source.now) in
    let leaves = prepend_known l.intake (g.S.Source.left l.source) in
    let later = g.S.Source.left n.source in
    let at = subst (λ (x : Next). IsNextWithin c.args.endian l.count n.intake later x) c.in-Ok-TooMany.field-0-is c.in-Ok-TooMany.ensures.next in
    told_gives left _ _ (λ xs q. q.0) (running_crowded c.args.port channels (new_clock c.args.opened.now.hub.tick) c.args.endian (g.K.Sink.held c.args.sink.now) (g.K.Sink.faults c.args.sink.now) (g.K.Sink.is_steady c.args.sink.now) c.args.gather.now (g.K.Sink.held l.sink) (g.K.Sink.faults l.sink) (g.K.Sink.is_steady l.sink) l.gather l.progress.due l.progress.room l.count left leaves later n.intake (l.invariant.running channels numbered) c.next_within.ensures.same at.0 at.1)

pub returns-in-Ok-TooMany-clause-steady : goal.returns-in-Ok-TooMany-clause-steady
returns-in-Ok-TooMany-clause-steady g c = λ s channels numbered.
    let l = c.loop-count in
    let n = c.next_within.new in
    let left = prepend_known c.args.intake.now (g.S.Source.left c.args.source.now) in
    let leaves = prepend_known l.intake (g.S.Source.left l.source) in
    let later = g.S.Source.left n.source in
    let at = subst (λ (x : Next). IsNextWithin c.args.endian l.count n.intake later x) c.in-Ok-TooMany.field-0-is c.in-Ok-TooMany.ensures.next in
    told_gives left _ _ (λ xs q. q.1) (running_crowded c.args.port channels (new_clock c.args.opened.now.hub.tick) c.args.endian (g.K.Sink.held c.args.sink.now) (g.K.Sink.faults c.args.sink.now) (g.K.Sink.is_steady c.args.sink.now) c.args.gather.now (g.K.Sink.held l.sink) (g.K.Sink.faults l.sink) (g.K.Sink.is_steady l.sink) l.gather l.progress.due l.progress.room l.count left leaves later n.intake (l.invariant.running channels numbered) c.next_within.ensures.same at.0 at.1)

pub returns-in-Ok-TooMany-clause-journal : goal.returns-in-Ok-TooMany-clause-journal
returns-in-Ok-TooMany-clause-journal g c = λ e. absurd (other_end _ not_too_long e)

pub returns-in-Ok-TooMany-clause-ended : goal.returns-in-Ok-TooMany-clause-ended
returns-in-Ok-TooMany-clause-ended g c = λ e. absurd (other_end _ not_too_long e)

pub returns-in-Ok-Broken-clause-text : goal.returns-in-Ok-Broken-clause-text
returns-in-Ok-Broken-clause-text g c = λ channels numbered.
    let l = c.loop-count in
    let n = c.next_within.new in
    let left = prepend_known c.args.intake.now (g.S.Source.left c.args.source.now) in
    let leaves = prepend_known l.intake (g.S.Source.left l.source) in
    let later = g.S.Source.left n.source in
    let at = subst (λ (x : Next). IsNextWithin c.args.endian l.count n.intake later x) c.in-Ok-Broken.field-0-is c.in-Ok-Broken.ensures.next in
    told_gives left _ _ (λ xs q. q.0) (running_broken c.args.port channels (new_clock c.args.opened.now.hub.tick) c.args.endian (g.K.Sink.held c.args.sink.now) (g.K.Sink.faults c.args.sink.now) (g.K.Sink.is_steady c.args.sink.now) c.args.gather.now (g.K.Sink.held l.sink) (g.K.Sink.faults l.sink) (g.K.Sink.is_steady l.sink) l.gather l.progress.due l.progress.room l.count left leaves later n.intake c.in-Ok-Broken.fault (l.invariant.running channels numbered) c.next_within.ensures.same at.0 at.1.0 at.1.1)

pub returns-in-Ok-Broken-clause-steady : goal.returns-in-Ok-Broken-clause-steady
returns-in-Ok-Broken-clause-steady g c = λ s channels numbered.
    let l = c.loop-count in
    let n = c.next_within.new in
    let left = prepend_known c.args.intake.now (g.S.Source.left c.args.source.now) in
    let leaves = prepend_known l.intake (g.S.Source.left l.source) in
    let later = g.S.Source.left n.source in
    let at = subst (λ (x : Next). IsNextWithin c.args.endian l.count n.intake later x) c.in-Ok-Broken.field-0-is c.in-Ok-Broken.ensures.next in
    told_gives left _ _ (λ xs q. q.1) (running_broken c.args.port channels (new_clock c.args.opened.now.hub.tick) c.args.endian (g.K.Sink.held c.args.sink.now) (g.K.Sink.faults c.args.sink.now) (g.K.Sink.is_steady c.args.sink.now) c.args.gather.now (g.K.Sink.held l.sink) (g.K.Sink.faults l.sink) (g.K.Sink.is_steady l.sink) l.gather l.progress.due l.progress.room l.count left leaves later n.intake c.in-Ok-Broken.fault (l.invariant.running channels numbered) c.next_within.ensures.same at.0 at.1.0 at.1.1)

pub returns-in-Ok-Broken-clause-journal : goal.returns-in-Ok-Broken-clause-journal
returns-in-Ok-Broken-clause-journal g c = λ e. absurd (other_end _ (not_refused _ _) e)

pub returns-in-Ok-Broken-clause-ended : goal.returns-in-Ok-Broken-clause-ended
returns-in-Ok-Broken-clause-ended g c = λ e. absurd (other_end _ (not_refused _ _) e)

pub returns-in-Ok-Ended-clause-read : goal.returns-in-Ok-Ended-clause-read
returns-in-Ok-Ended-clause-read g c = λ e. absurd (never_err _ _ e)

pub returns-in-Ok-Ended-clause-cause : goal.returns-in-Ok-Ended-clause-cause
returns-in-Ok-Ended-clause-cause g c =
    let l = c.loop-count in
    let before = l.invariant.read_later in
    let after = c.next_within.ensures.cause.later in
    record { read_later = omega (arith, before, after); write_later = l.invariant.write_later; cause = tt }

pub returns-in-Ok-TooMany-clause-read : goal.returns-in-Ok-TooMany-clause-read
returns-in-Ok-TooMany-clause-read g c = λ e. absurd (never_err _ _ e)

pub returns-in-Ok-TooMany-clause-cause : goal.returns-in-Ok-TooMany-clause-cause
returns-in-Ok-TooMany-clause-cause g c =
    let l = c.loop-count in
    let before = l.invariant.read_later in
    let after = c.next_within.ensures.cause.later in
    record { read_later = omega (arith, before, after); write_later = l.invariant.write_later; cause = tt }

pub returns-in-Ok-Broken-clause-read : goal.returns-in-Ok-Broken-clause-read
returns-in-Ok-Broken-clause-read g c = λ e. absurd (never_err _ _ e)

pub returns-in-Ok-Broken-clause-cause : goal.returns-in-Ok-Broken-clause-cause
returns-in-Ok-Broken-clause-cause g c =
    let l = c.loop-count in
    let before = l.invariant.read_later in
    let after = c.next_within.ensures.cause.later in
    record { read_later = omega (arith, before, after); write_later = l.invariant.write_later; cause = tt }

pub write_record-requires-clause-there : goal.write_record-requires-clause-there
write_record-requires-clause-there g c =
    let l = c.loop-count in
    let n = c.next_within.new in
    let later = g.S.Source.left n.source in
    let at = subst (λ (x : Next). IsNextWithin c.args.endian l.count n.intake later x) c.in-Ok-Whole.field-0-is c.in-Ok-Whole.ensures.next in
    at.1.1

pub write_record-requires-clause-moment : goal.write_record-requires-clause-moment
write_record-requires-clause-moment g c =
    let l = c.loop-count in
    let n = c.next_within.new in
    let later = g.S.Source.left n.source in
    let at = subst (λ (x : Next). IsNextWithin c.args.endian l.count n.intake later x) c.in-Ok-Whole.field-0-is c.in-Ok-Whole.ensures.next in
    at.1.2

pub returns-in_err-write_record-in-Ok-Whole-clause-front : goal.returns-in_err-write_record-in-Ok-Whole-clause-front
returns-in_err-write_record-in-Ok-Whole-clause-front g c =
    let l = c.loop-count in
    let n = c.next_within.new in
    let left = prepend_known c.args.intake.now (g.S.Source.left c.args.source.now) in
    let leaves = prepend_known l.intake (g.S.Source.left l.source) in
    let later = g.S.Source.left n.source in
    let at = subst (λ (x : Next). IsNextWithin c.args.endian l.count n.intake later x) c.in-Ok-Whole.field-0-is c.in-Ok-Whole.ensures.next in
    let p = err_from_is_err_and c.from_residual.result c.from_residual.ensures.1 in
    err_so c.from_residual.result p.0 c.in_err-write_record-in-Ok-Whole.field-0.0 _ p.1 p.2
    (λ channels numbered. running_stops c.args.port channels (new_clock c.args.opened.now.hub.tick) c.args.endian (g.K.Sink.held c.args.sink.now) (g.K.Sink.faults c.args.sink.now) (g.K.Sink.is_steady c.args.sink.now) c.args.gather.now (g.K.Sink.held l.sink) (g.K.Sink.faults l.sink) (g.K.Sink.is_steady l.sink) l.gather l.progress.due l.progress.room l.count n.intake c.in-Ok-Whole.header at.1.0 at.1.1 at.0 left leaves later (g.K.Sink.held c.write_record.new.sink) c.write_record.new.gather c.in_err-write_record-in-Ok-Whole.field-0.0 (l.invariant.running channels numbered) c.next_within.ensures.same
    (c.in_err-write_record-in-Ok-Whole.ensures.front channels numbered))

pub returns-in_err-write_record-in-Ok-Whole-clause-read : goal.returns-in_err-write_record-in-Ok-Whole-clause-read
returns-in_err-write_record-in-Ok-Whole-clause-read g c = λ e.
    let p = err_from_is_err_and c.from_residual.result c.from_residual.ensures.1 in
    absurd (not_by_sink _ _ c.from_residual.result p.0 c.in_err-write_record-in-Ok-Whole.field-0.0 p.1 p.2 c.in_err-write_record-in-Ok-Whole.ensures.cause.cause e)

pub returns-in_err-write_record-in-Ok-Whole-clause-cause : goal.returns-in_err-write_record-in-Ok-Whole-clause-cause
returns-in_err-write_record-in-Ok-Whole-clause-cause g c =
    let p = err_from_is_err_and c.from_residual.result c.from_residual.ensures.1 in
    let l = c.loop-count in
    let before = l.invariant.read_later in
    let after = c.next_within.ensures.cause.later in
    let written = l.invariant.write_later in
    let writes = c.write_record.ensures.cause.later in
    record {
      read_later = omega (arith, before, after);
      write_later = omega (arith, written, writes);
      cause = err_so c.from_residual.result p.0 c.in_err-write_record-in-Ok-Whole.field-0.0 _ p.1 p.2 (write_stops_so _ _ _ _ c.in_err-write_record-in-Ok-Whole.field-0.0 (write_since _ _ _ c.in_err-write_record-in-Ok-Whole.field-0.0 written c.in_err-write_record-in-Ok-Whole.ensures.cause.cause));
    }

pub returns-in_err-write_record-in-Ok-Whole-clause-steady : goal.returns-in_err-write_record-in-Ok-Whole-clause-steady
returns-in_err-write_record-in-Ok-Whole-clause-steady g c = λ s channels numbered.
    let l = c.loop-count in
    let n = c.next_within.new in
    let left = prepend_known c.args.intake.now (g.S.Source.left c.args.source.now) in
    let leaves = prepend_known l.intake (g.S.Source.left l.source) in
    let later = g.S.Source.left n.source in
    let at = subst (λ (x : Next). IsNextWithin c.args.endian l.count n.intake later x) c.in-Ok-Whole.field-0-is c.in-Ok-Whole.ensures.next in
    let p = err_from_is_err_and c.from_residual.result c.from_residual.ensures.1 in
    let room = running_has_room c.args.port channels (new_clock c.args.opened.now.hub.tick) c.args.endian (g.K.Sink.held c.args.sink.now) (g.K.Sink.faults c.args.sink.now) (g.K.Sink.is_steady c.args.sink.now) c.args.gather.now (g.K.Sink.held l.sink) (g.K.Sink.faults l.sink) (g.K.Sink.is_steady l.sink) l.gather l.progress.due l.progress.room l.count n.intake c.in-Ok-Whole.header at.1.0 at.1.1 at.0 left leaves later (l.invariant.running channels numbered) c.next_within.ensures.same in
    told_gives left _ _
    (λ xs has. λ more h.
    let fits = has more h in
    match_err c.from_residual.result p.0 c.in_err-write_record-in-Ok-Whole.field-0.0 _ p.1 p.2 (c.in_err-write_record-in-Ok-Whole.ensures.steady channels fits.0 numbered fits.1))
    room

pub returns-then-not-branch-clause-text : goal.returns-then-not-branch-clause-text
returns-then-not-branch-clause-text g c = λ channels numbered.
    let l = c.loop-count in
    let n = c.next_within.new in
    let left = prepend_known c.args.intake.now (g.S.Source.left c.args.source.now) in
    let leaves = prepend_known l.intake (g.S.Source.left l.source) in
    let later = g.S.Source.left n.source in
    let at = subst (λ (x : Next). IsNextWithin c.args.endian l.count n.intake later x) c.in-Ok-Whole.field-0-is c.in-Ok-Whole.ensures.next in
    told_gives left _ _ (λ xs q. q.0) (running_full c.args.port channels (new_clock c.args.opened.now.hub.tick) c.args.endian (g.K.Sink.held c.args.sink.now) (g.K.Sink.faults c.args.sink.now) (g.K.Sink.is_steady c.args.sink.now) c.args.gather.now (g.K.Sink.held l.sink) (g.K.Sink.faults l.sink) (g.K.Sink.is_steady l.sink) l.gather l.progress.due l.progress.room l.count n.intake c.in-Ok-Whole.header at.1.0 at.1.1 at.0 (g.K.Sink.held c.write_record.new.sink) (g.K.Sink.faults c.write_record.new.sink) (g.K.Sink.is_steady c.write_record.new.sink) c.write_record.new.gather (c.in_ok-write_record-in-Ok-Whole.ensures.all channels numbered) (λ more h. c.in_ok-write_record-in-Ok-Whole.ensures.steady channels more numbered h) left leaves later (l.invariant.running channels numbered) c.next_within.ensures.same (when_not c.in_ok-write_record-in-Ok-Whole.field-0 _ _ (c.in_ok-write_record-in-Ok-Whole.ensures.fits channels numbered) c.if-not-branch.true))

pub returns-then-not-branch-clause-steady : goal.returns-then-not-branch-clause-steady
returns-then-not-branch-clause-steady g c = λ s channels numbered.
    let l = c.loop-count in
    let n = c.next_within.new in
    let left = prepend_known c.args.intake.now (g.S.Source.left c.args.source.now) in
    let leaves = prepend_known l.intake (g.S.Source.left l.source) in
    let later = g.S.Source.left n.source in
    let at = subst (λ (x : Next). IsNextWithin c.args.endian l.count n.intake later x) c.in-Ok-Whole.field-0-is c.in-Ok-Whole.ensures.next in
    told_gives left _ _ (λ xs q. q.1) (running_full c.args.port channels (new_clock c.args.opened.now.hub.tick) c.args.endian (g.K.Sink.held c.args.sink.now) (g.K.Sink.faults c.args.sink.now) (g.K.Sink.is_steady c.args.sink.now) c.args.gather.now (g.K.Sink.held l.sink) (g.K.Sink.faults l.sink) (g.K.Sink.is_steady l.sink) l.gather l.progress.due l.progress.room l.count n.intake c.in-Ok-Whole.header at.1.0 at.1.1 at.0 (g.K.Sink.held c.write_record.new.sink) (g.K.Sink.faults c.write_record.new.sink) (g.K.Sink.is_steady c.write_record.new.sink) c.write_record.new.gather (c.in_ok-write_record-in-Ok-Whole.ensures.all channels numbered) (λ more h. c.in_ok-write_record-in-Ok-Whole.ensures.steady channels more numbered h) left leaves later (l.invariant.running channels numbered) c.next_within.ensures.same (when_not c.in_ok-write_record-in-Ok-Whole.field-0 _ _ (c.in_ok-write_record-in-Ok-Whole.ensures.fits channels numbered) c.if-not-branch.true))

pub returns-then-not-branch-clause-journal : goal.returns-then-not-branch-clause-journal
returns-then-not-branch-clause-journal g c = λ e. absurd (other_end _ not_too_long e)

pub returns-then-not-branch-clause-ended : goal.returns-then-not-branch-clause-ended
returns-then-not-branch-clause-ended g c = λ e. absurd (other_end _ not_too_long e)

pub returns-then-not-branch-clause-read : goal.returns-then-not-branch-clause-read
returns-then-not-branch-clause-read g c = λ e. absurd (never_err _ _ e)

pub loop-count-preserved : goal.loop-count-preserved
loop-count-preserved g c =
    let l = c.loop-count in
    let n = c.next_within.new in
    let later = g.S.Source.left n.source in
    let at = subst (λ (x : Next). IsNextWithin c.args.endian l.count n.intake later x) c.in-Ok-Whole.field-0-is c.in-Ok-Whole.ensures.next in
    let left = prepend_known c.args.intake.now (g.S.Source.left c.args.source.now) in
    let leaves = prepend_known l.intake (g.S.Source.left l.source) in
    let read = l.invariant.read_later in
    let reads = c.next_within.ensures.cause.later in
    let written = l.invariant.write_later in
    let writes = c.write_record.ensures.cause.later in
    record {
      running = λ channels numbered.
          running_goes_on c.args.port channels (new_clock c.args.opened.now.hub.tick) c.args.endian (g.K.Sink.held c.args.sink.now) (g.K.Sink.faults c.args.sink.now) (g.K.Sink.is_steady c.args.sink.now) c.args.gather.now (g.K.Sink.held l.sink) (g.K.Sink.faults l.sink) (g.K.Sink.is_steady l.sink) l.gather l.progress.due l.progress.room l.count n.intake c.in-Ok-Whole.header at.1.0 at.1.1 at.0 (g.K.Sink.held c.write_record.new.sink) (g.K.Sink.faults c.write_record.new.sink) (g.K.Sink.is_steady c.write_record.new.sink) c.write_record.new.gather (c.in_ok-write_record-in-Ok-Whole.ensures.all channels numbered) (λ more h. c.in_ok-write_record-in-Ok-Whole.ensures.steady channels more numbered h) left leaves later c.write_record.new.progress.due c.write_record.new.progress.room c.write_record.new.intake (l.invariant.running channels numbered) c.next_within.ensures.same
          c.in_ok-write_record-in-Ok-Whole.ensures.left c.write_record.ensures.clock (when_full c.in_ok-write_record-in-Ok-Whole.field-0 _ _ (c.in_ok-write_record-in-Ok-Whole.ensures.fits channels numbered) c.if-not-branch.false) (c.write_record.ensures.spelled channels numbered) writes;
      read_later = omega (arith, read, reads);
      write_later = omega (arith, written, writes);
      calm = λ s. c.in-Ok-Whole.ensures.steady (l.invariant.calm s);
    }

pub returns-clause-journal : goal.returns-clause-journal
returns-clause-journal g c = λ e. absurd (never_ok _ _ e)

pub returns-clause-ended : goal.returns-clause-ended
returns-clause-ended g c = λ e. absurd (never_ok _ _ e)

pub returns-clause-read : goal.returns-clause-read
returns-clause-read g c = λ e. absurd (memory_not_read e)

pub returns-clause-front : goal.returns-clause-front
returns-clause-front g c = λ channels numbered.
    let l = c.loop-count in
    running_breaks c.args.port channels (new_clock c.args.opened.now.hub.tick) c.args.endian (g.K.Sink.held c.args.sink.now) (g.K.Sink.faults c.args.sink.now) (g.K.Sink.is_steady c.args.sink.now) c.args.gather.now (g.K.Sink.held l.sink) (g.K.Sink.faults l.sink) (g.K.Sink.is_steady l.sink) l.gather l.progress.due l.progress.room l.count (prepend_known c.args.intake.now (g.S.Source.left c.args.source.now)) (prepend_known l.intake (g.S.Source.left l.source)) Memory (l.invariant.running channels numbered)

pub returns-clause-cause : goal.returns-clause-cause
returns-clause-cause g c =
    record { read_later = c.loop-count.invariant.read_later; write_later = c.loop-count.invariant.write_later; cause = tt }

pub returns-clause-steady : goal.returns-clause-steady
returns-clause-steady g c = λ s channels numbered. told_all (prepend_known c.args.intake.now (g.S.Source.left c.args.source.now)) _ (λ xs room h. refl)
