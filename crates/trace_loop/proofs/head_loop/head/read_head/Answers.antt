use Rattle.std.proofs.Common.{◌≡◌, Err, ap, sym, ◌∙◌, subst, arith}
use Rattle.std.proofs.lemmas.Result.{err_from_is_err_and}
use Rattle.std.specs.Io.KnownBytes.{prepend_known}
use Rattle.rams_model.specs.declared.Mode.TheVariants.{Serve}
use Rattle.trace_loop.specs.declared.{stop.Stop.TheVariants.Read, head_loop.head.HeadLine.HeadLine}
use Rattle.trace_loop.specs.journal_book.{starting}
use Rattle.trace_loop.specs.head_loop.{IsHeadOf, StandsAfter}
use Rattle.trace_loop.proofs.Running.{told_gives}
use Rattle.trace_loop.proofs.head_loop.HeadLines.{IsWhole, TakesLine, head_is, reading_begins, reading_ends, reading_goes_on, reading_refuses, reading_told}
use Rattle.trace_loop.proofs.head_loop.Leaving.{reading_leaves, reading_cut}
use Rattle.trace_loop.proofs.head_loop.head.read_head.Goals as goal

pub loop-number-init : goal.loop-number-init
loop-number-init g c =
    let o = c.new_opening-opening.result in
    record {
      reading = reading_begins (prepend_known c.args.reader.now.kept (g.S.Source.left c.args.source.now)) o.hub o.ids.items o.state o.text.items c.new_opening-opening.ensures.text c.new_opening-opening.ensures.opened;
      opened = (starting Serve, c.new_opening-opening.ensures.opened);
      read_later = omega arith;
      steady = λ s. s;
    }

pub returns-in_err-next_line-clause-cut : goal.returns-in_err-next_line-clause-cut
returns-in_err-next_line-clause-cut g c = λ e.
    let o = c.loop-number.opening in
    let left = prepend_known c.args.reader.now.kept (g.S.Source.left c.args.source.now) in
    let leaves = prepend_known c.loop-number.reader.kept (g.S.Source.left c.loop-number.source) in
    let p = err_from_is_err_and c.from_residual.result c.from_residual.ensures.1 in
    let read : p.0 ≡ Read = cc in
    let was = ap Err (sym p.2 ∙ read) in
    reading_cut left leaves (g.S.Source.left c.next_line.new.source) c.next_line.new.reader.kept o.hub o.ids.items o.state o.text.items c.loop-number.number c.loop-number.invariant.reading
    (c.in_err-next_line.ensures.unread was) (c.in_err-next_line.ensures.same was)

pub returns-in-Ends-clause-read : goal.returns-in-Ends-clause-read
returns-in-Ends-clause-read g c =
    let o = c.loop-number.opening in
    let n = c.next_line.new.opening in
    let left = prepend_known c.args.reader.now.kept (g.S.Source.left c.args.source.now) in
    let leaves = prepend_known c.loop-number.reader.kept (g.S.Source.left c.loop-number.source) in
    let later = prepend_known c.next_line.new.reader.kept (g.S.Source.left c.next_line.new.source) in
    let takes = subst (λ (d : HeadLine). TakesLine o.hub o.ids.items o.state n.hub n.ids.items n.state o.text.items n.text.items d leaves later) c.in-Ends.is c.in_ok-next_line.ensures.line in
    let whole = reading_ends left leaves later o.hub n.hub o.ids.items n.ids.items o.state n.state o.text.items n.text.items c.loop-number.number c.loop-number.invariant.reading takes in
    let r = c.finish.result in
    told_gives left (IsWhole n.hub n.ids.items n.text.items) (λ xs. IsHeadOf xs r.hub r.ids.items r.text.items)
    (λ xs w. head_is xs n.ids.items n.text.items r.ids.items r.text.items n.hub r.hub c.finish.ensures.hub c.finish.ensures.ids c.finish.ensures.text w) whole

pub returns-in-Ends-clause-left : goal.returns-in-Ends-clause-left
returns-in-Ends-clause-left g c =
    let o = c.loop-number.opening in
    let n = c.next_line.new.opening in
    let left = prepend_known c.args.reader.now.kept (g.S.Source.left c.args.source.now) in
    let leaves = prepend_known c.loop-number.reader.kept (g.S.Source.left c.loop-number.source) in
    let later = prepend_known c.next_line.new.reader.kept (g.S.Source.left c.next_line.new.source) in
    let takes = subst (λ (d : HeadLine). TakesLine o.hub o.ids.items o.state n.hub n.ids.items n.state o.text.items n.text.items d leaves later) c.in-Ends.is c.in_ok-next_line.ensures.line in
    reading_leaves left leaves later o.hub n.hub o.ids.items n.ids.items o.state n.state o.text.items n.text.items c.loop-number.number c.loop-number.invariant.reading takes

pub returns-in-Refused-clause-read : goal.returns-in-Refused-clause-read
returns-in-Refused-clause-read g c =
    let o = c.loop-number.opening in
    let n = c.next_line.new.opening in
    let left = prepend_known c.args.reader.now.kept (g.S.Source.left c.args.source.now) in
    let leaves = prepend_known c.loop-number.reader.kept (g.S.Source.left c.loop-number.source) in
    let later = prepend_known c.next_line.new.reader.kept (g.S.Source.left c.next_line.new.source) in
    let takes = subst (λ (d : HeadLine). TakesLine o.hub o.ids.items o.state n.hub n.ids.items n.state o.text.items n.text.items d leaves later) c.in-Refused.is c.in_ok-next_line.ensures.line in
    reading_refuses left leaves later o.hub n.hub o.ids.items n.ids.items o.state n.state o.text.items n.text.items c.loop-number.number c.in-Refused.fault c.loop-number.invariant.reading takes

pub returns-in-Refused-clause-left : goal.returns-in-Refused-clause-left
returns-in-Refused-clause-left g c =
    let o = c.loop-number.opening in
    let n = c.next_line.new.opening in
    let left = prepend_known c.args.reader.now.kept (g.S.Source.left c.args.source.now) in
    let leaves = prepend_known c.loop-number.reader.kept (g.S.Source.left c.loop-number.source) in
    let later = prepend_known c.next_line.new.reader.kept (g.S.Source.left c.next_line.new.source) in
    reading_told left leaves later o.hub n.hub o.ids.items n.ids.items o.state n.state o.text.items n.text.items c.loop-number.number c.in_ok-next_line.field-0 c.loop-number.invariant.reading c.in_ok-next_line.ensures.line

pub loop-number-preserved : goal.loop-number-preserved
loop-number-preserved g c =
    let o = c.loop-number.opening in
    let n = c.next_line.new.opening in
    let left = prepend_known c.args.reader.now.kept (g.S.Source.left c.args.source.now) in
    let leaves = prepend_known c.loop-number.reader.kept (g.S.Source.left c.loop-number.source) in
    let later = prepend_known c.next_line.new.reader.kept (g.S.Source.left c.next_line.new.source) in
    let takes = subst (λ (d : HeadLine). TakesLine o.hub o.ids.items o.state n.hub n.ids.items n.state o.text.items n.text.items d leaves later) c.in-GoesOn.is c.in_ok-next_line.ensures.line in
    let before = c.loop-number.invariant.read_later in
    let now = c.next_line.ensures.cause.later in
    record {
      reading = reading_goes_on left leaves later o.hub n.hub o.ids.items n.ids.items o.state n.state o.text.items n.text.items c.loop-number.number c.loop-number.invariant.reading takes;
      opened = subst (λ (d : HeadLine). StandsAfter d n.hub n.ids.items n.state) c.in-GoesOn.is c.in_ok-next_line.ensures.stands;
      read_later = omega (arith, before, now);
      steady = λ s. c.in_ok-next_line.ensures.steady (c.loop-number.invariant.steady s);
    }
