use Rattle.std.proofs.Common.{ℕ, ◌∙◌, subst, arith}
use Rattle.std.specs.Io.KnownBytes.{prepend_known}
use Rattle.trace_loop.specs.{IfBothTold}
use Rattle.trace_loop.specs.trace_book.trace_serving.{opening}
use Rattle.trace_loop.specs.declared.whole_trace.Does.{Does}
use Rattle.threads_loop.specs.{threads, StandsAfter}
use Rattle.threads_loop.proofs.LineByLine.{IsReading, TakesLine, reading_begins, reading_ends, reading_goes_on, reading_refuses, reading_breaks, ends_known}
use Rattle.threads_loop.proofs.reading.read_trace.Goals as goal

pub loop-number-init : goal.loop-number-init
loop-number-init g c =
    let d = c.in_ok-dealt.dealt in
    let e = c.in_ok-dealt.ensures in
    let left = g.S.Source.left c.args.source.now in
    record {
      reading = subst (λ (n : ℕ). IfBothTold left (prepend_known c.in_ok-reader.reader.kept left) (IsReading n d 1)) e.2 (reading_begins left c.in_ok-reader.reader.kept d c.in_ok-reader.ensures.kept e.1 e.0);
      dealt = (opening threads, e.0);
      workers = e.2;
      read_later = omega arith;
      steady = λ s. s;
    }

pub returns-in-Ends-clause-read : goal.returns-in-Ends-clause-read
returns-in-Ends-clause-read g c =
    let d = c.loop-number.dealt in
    let n = c.next_line.new.dealt in
    let left = g.S.Source.left c.args.source.now in
    let leaves = prepend_known c.loop-number.reader.kept (g.S.Source.left c.loop-number.source) in
    let later = prepend_known c.next_line.new.reader.kept (g.S.Source.left c.next_line.new.source) in
    let takes = subst (λ (x : Does). TakesLine d n x leaves later) c.in-Ends.is c.in_ok-next_line.ensures.line in
    reading_ends c.args.workers left leaves later d n c.loop-number.number c.next_line.ensures.workers c.loop-number.invariant.reading takes

pub returns-in-Ends-clause-whole : goal.returns-in-Ends-clause-whole
returns-in-Ends-clause-whole g c =
    let n = c.next_line.new.dealt in
    let stands = subst (λ (x : Does). StandsAfter x n) c.in-Ends.is c.in_ok-next_line.ensures.stands in
    (stands.0, stands.1, ends_known n stands.0 stands.1 stands.2)

pub returns-in-Refused-clause-read : goal.returns-in-Refused-clause-read
returns-in-Refused-clause-read g c =
    let d = c.loop-number.dealt in
    let n = c.next_line.new.dealt in
    let left = g.S.Source.left c.args.source.now in
    let leaves = prepend_known c.loop-number.reader.kept (g.S.Source.left c.loop-number.source) in
    let later = prepend_known c.next_line.new.reader.kept (g.S.Source.left c.next_line.new.source) in
    let takes = subst (λ (x : Does). TakesLine d n x leaves later) c.in-Refused.is c.in_ok-next_line.ensures.line in
    reading_refuses c.args.workers left leaves later d n c.loop-number.number c.in-Refused.fault c.loop-number.invariant.reading takes

pub returns-in-TooLong-clause-read : goal.returns-in-TooLong-clause-read
returns-in-TooLong-clause-read g c =
    let d = c.loop-number.dealt in
    let n = c.next_line.new.dealt in
    let left = g.S.Source.left c.args.source.now in
    let leaves = prepend_known c.loop-number.reader.kept (g.S.Source.left c.loop-number.source) in
    let later = prepend_known c.next_line.new.reader.kept (g.S.Source.left c.next_line.new.source) in
    let takes = subst (λ (x : Does). TakesLine d n x leaves later) c.in-TooLong.is c.in_ok-next_line.ensures.line in
    reading_breaks c.args.workers left leaves later d n c.loop-number.number c.loop-number.invariant.reading takes

pub loop-number-preserved : goal.loop-number-preserved
loop-number-preserved g c =
    let d = c.loop-number.dealt in
    let n = c.next_line.new.dealt in
    let left = g.S.Source.left c.args.source.now in
    let leaves = prepend_known c.loop-number.reader.kept (g.S.Source.left c.loop-number.source) in
    let later = prepend_known c.next_line.new.reader.kept (g.S.Source.left c.next_line.new.source) in
    let takes = subst (λ (x : Does). TakesLine d n x leaves later) c.in-GoesOn.is c.in_ok-next_line.ensures.line in
    record {
      reading = reading_goes_on c.args.workers left leaves later d n c.loop-number.number c.next_line.ensures.workers c.loop-number.invariant.reading takes;
      dealt = subst (λ (x : Does). StandsAfter x n) c.in-GoesOn.is c.in_ok-next_line.ensures.stands;
      workers = c.next_line.ensures.workers ∙ c.loop-number.invariant.workers;
      read_later = omega (arith, c.loop-number.invariant.read_later, c.next_line.ensures.cause.later);
      steady = λ s. c.in_ok-next_line.ensures.steady (c.loop-number.invariant.steady s);
    }
