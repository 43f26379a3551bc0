use Rattle.std.proofs.Common.{ℕ, ◌<◌, List, take, length, sym, ap, ◌∙◌, arith}
use Rattle.std.proofs.lemmas.Bool.{eqb-false}
use Rattle.line_io.proofs.NextLines.{on_failure}
use Rattle.converters.specs.capture_loop.pcap_trace.{record_at}
use Rattle.converters.proofs.capture_loop.Filling.{when_full, when_not}
use Rattle.converters.proofs.capture_loop.Cutting.{short_header, told_at_end, told_broken}
use Rattle.converters.proofs.capture_loop.records.next_record.Goals as goal

pub returns-in_err-fill-clause-unread : goal.returns-in_err-fill-clause-unread
returns-in_err-fill-clause-unread g c = on_failure c.from_residual.result _ (short_header c.args.endian c.fill.new.self c.in_err-fill.ensures.short)

pub returns-then-not-branch-clause-next : goal.returns-then-not-branch-clause-next
returns-then-not-branch-clause-next g c =
    let none = when_not c.in_ok-fill.field-0 _ _ c.in_ok-fill.ensures.filled c.if-not-branch.true in
    let some : 0 < length c.fill.new.self = omega (arith, eqb-false (length c.bytes.result.now) 0 (sym c.is_empty.ensures ∙ c.if-is_empty.false), ap length c.bytes.ensures) in
    (some, told_at_end _ c.fill.new.self (g.S.Source.left c.fill.new.source) none.1 (short_header c.args.endian c.fill.new.self none.0))

pub returns-in-Err-clause-next : goal.returns-in-Err-clause-next
returns-in-Err-clause-next g c =
    let there = when_full c.in_ok-fill.field-0 _ _ c.in_ok-fill.ensures.filled c.if-not-branch.false in
    let some : 0 < length c.fill.new.self = omega (arith, there) in
    let reads = ap (λ (l : List ℕ). record_at c.args.endian (take 16 l)) (sym c.bytes-2.ensures) ∙ sym c.in-Err.ensures.exact in
    (some, told_broken c.args.endian c.fill.new.self (g.S.Source.left c.fill.new.source) c.in-Err.fault there reads)
