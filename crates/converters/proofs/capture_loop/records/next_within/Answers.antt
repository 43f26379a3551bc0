use Rattle.std.proofs.Common.{arith}
use Rattle.line_io.proofs.NextLines.{on_failure}
use Rattle.converters.proofs.capture_loop.Filling.{most_records_is, next_is_within, when_full}
use Rattle.converters.proofs.capture_loop.Cutting.{short_header}
use Rattle.converters.proofs.capture_loop.records.next_within.Goals as goal

pub returns-then-count-lt-MOST_RECORDS-clause-next : goal.returns-then-count-lt-MOST_RECORDS-clause-next
returns-then-count-lt-MOST_RECORDS-clause-next g c =
    let within = c.if-count-lt-MOST_RECORDS.true in
    next_is_within c.args.endian c.args.count c.next_record.new.intake (g.S.Source.left c.next_record.new.source) c.next_record.result (omega (arith, within, most_records_is)) c.next_record.ensures.next

pub returns-in_err-fill-clause-unread : goal.returns-in_err-fill-clause-unread
returns-in_err-fill-clause-unread g c =
    let short = c.in_err-fill.ensures.short in
    on_failure c.from_residual.result _ (short_header c.args.endian c.fill.new.self (omega (arith, short)))

pub returns-then-branch-clause-next : goal.returns-then-branch-clause-next
returns-then-branch-clause-next g c =
    let there = when_full c.in_ok-fill.field-0 _ _ c.in_ok-fill.ensures.filled c.if-branch.true in
    let without = c.if-count-lt-MOST_RECORDS.false in
    (omega (arith, without, most_records_is), omega (arith, there))
