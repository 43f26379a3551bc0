use Rattle.std.proofs.Common.{ℕ, ◌<◌, ◌≤◌, List, length, ap, arith, length-append}
use Rattle.line_io.proofs.NextLines.{on_failure}
use Rattle.converters.specs.capture_loop.{BeginsWith}
use Rattle.converters.proofs.capture_loop.Filling.{header_grows, when_full, when_not}
use Rattle.converters.proofs.capture_loop.Cutting.{short_record, told_at_end}
use Rattle.converters.proofs.capture_loop.records.next_whole.Goals as goal

some : (old new : List ℕ) → BeginsWith old new → 16 ≤ length old → 0 < length new
some old new g there = omega (arith, ap length g.whole, length-append old g.more, there)

pub returns-in_err-fill-clause-unread : goal.returns-in_err-fill-clause-unread
returns-in_err-fill-clause-unread g c =
    on_failure c.from_residual.result _ (short_record c.args.endian c.fill.new.self c.args.header
    (header_grows c.args.endian c.args.intake.now c.fill.new.self c.args.header c.requires.reads c.requires.there c.fill.ensures.grown) c.in_err-fill.ensures.short)

pub returns-then-branch-clause-next : goal.returns-then-branch-clause-next
returns-then-branch-clause-next g c =
    let there = when_full c.in_ok-fill.field-0 _ _ c.in_ok-fill.ensures.filled c.if-branch.true in (
      header_grows c.args.endian c.args.intake.now c.fill.new.self c.args.header c.requires.reads c.requires.there c.fill.ensures.grown,
      there,
      c.requires.moment,
    )

pub returns-else-branch-clause-next : goal.returns-else-branch-clause-next
returns-else-branch-clause-next g c =
    let none = when_not c.in_ok-fill.field-0 _ _ c.in_ok-fill.ensures.filled c.if-branch.false in
    let more = c.fill.ensures.grown in
    let reads = header_grows c.args.endian c.args.intake.now c.fill.new.self c.args.header c.requires.reads c.requires.there more in (
      some c.args.intake.now c.fill.new.self more c.requires.there,
      told_at_end _ c.fill.new.self (g.S.Source.left c.fill.new.source) none.1 (short_record c.args.endian c.fill.new.self c.args.header reads none.0),
    )
