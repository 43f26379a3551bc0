use Rattle.std.proofs.Common.{[], subst, arith}
use Rattle.std.specs.Io.KnownBytes.{prepend_known}
use Rattle.trace_loop.specs.trace_book.trace_serving.{opening}
use Rattle.trace_loop.specs.declared.whole_trace.Does.{Does}
use Rattle.pool.specs.pool_loop.{pool, StandsAfter}
use Rattle.pool.proofs.pool_loop.LineByLine.{TakesLine, reading_begins, reading_ends, reading_goes_on, reading_refuses, reading_breaks}
use Rattle.pool.proofs.pool_loop.Taking.{ends_with_channel}
use Rattle.pool.proofs.pool_loop.reading.read_trace.Goals as goal

pub loop-number-init : goal.loop-number-init
loop-number-init g c =
    record {
      reading = reading_begins (g.S.Source.left c.args.source.now) c.in_ok-reader.reader.kept c.new_dealt-dealt.result c.in_ok-reader.ensures.kept c.new_dealt-dealt.ensures;
      dealt = ([], opening pool, c.new_dealt-dealt.ensures);
      read_later = omega arith;
      steady = λ s. s;
    }

pub returns-in-Ends-clause-read : goal.returns-in-Ends-clause-read
returns-in-Ends-clause-read g c =
    let d = c.loop-number.dealt in
    let n = c.next_line.new.dealt in
    let left = g.S.Source.left c.args.source.now in
    let leaves = prepend_known c.loop-number.reader.kept (g.S.Source.left c.loop-number.source) in
    let later = prepend_known c.next_line.new.reader.kept (g.S.Source.left c.next_line.new.source) in
    let takes = subst (λ (x : Does). TakesLine d n x leaves later) c.in-Ends.is c.in_ok-next_line.ensures.line in
    reading_ends left leaves later d n c.loop-number.number c.loop-number.invariant.reading takes

pub returns-in-Ends-clause-whole : goal.returns-in-Ends-clause-whole
returns-in-Ends-clause-whole g c =
    let n = c.next_line.new.dealt in
    let stands = subst (λ (x : Does). StandsAfter x n) c.in-Ends.is c.in_ok-next_line.ensures.stands in
    (stands.0, stands.1, stands.2, ends_with_channel n stands.0 stands.1 stands.2 stands.3)

pub returns-in-Refused-clause-read : goal.returns-in-Refused-clause-read
returns-in-Refused-clause-read g c =
    let d = c.loop-number.dealt in
    let n = c.next_line.new.dealt in
    let left = g.S.Source.left c.args.source.now in
    let leaves = prepend_known c.loop-number.reader.kept (g.S.Source.left c.loop-number.source) in
    let later = prepend_known c.next_line.new.reader.kept (g.S.Source.left c.next_line.new.source) in
    let takes = subst (λ (x : Does). TakesLine d n x leaves later) c.in-Refused.is c.in_ok-next_line.ensures.line in
    reading_refuses left leaves later d n c.loop-number.number c.in-Refused.fault c.loop-number.invariant.reading takes

pub returns-in-TooLong-clause-read : goal.returns-in-TooLong-clause-read
returns-in-TooLong-clause-read g c =
    let d = c.loop-number.dealt in
    let n = c.next_line.new.dealt in
    let left = g.S.Source.left c.args.source.now in
    let leaves = prepend_known c.loop-number.reader.kept (g.S.Source.left c.loop-number.source) in
    let later = prepend_known c.next_line.new.reader.kept (g.S.Source.left c.next_line.new.source) in
    let takes = subst (λ (x : Does). TakesLine d n x leaves later) c.in-TooLong.is c.in_ok-next_line.ensures.line in
    reading_breaks left leaves later d n c.loop-number.number c.loop-number.invariant.reading takes

pub loop-number-preserved : goal.loop-number-preserved
loop-number-preserved g c =
    let d = c.loop-number.dealt in
    let n = c.next_line.new.dealt in
    let left = g.S.Source.left c.args.source.now in
    let leaves = prepend_known c.loop-number.reader.kept (g.S.Source.left c.loop-number.source) in
    let later = prepend_known c.next_line.new.reader.kept (g.S.Source.left c.next_line.new.source) in
    let takes = subst (λ (x : Does). TakesLine d n x leaves later) c.in-GoesOn.is c.in_ok-next_line.ensures.line in
    record {
      reading = reading_goes_on left leaves later d n c.loop-number.number c.loop-number.invariant.reading takes;
      dealt = subst (λ (x : Does). StandsAfter x n) c.in-GoesOn.is c.in_ok-next_line.ensures.stands;
      read_later = omega (arith, c.loop-number.invariant.read_later, c.next_line.ensures.cause.later);
      steady = λ s. c.in_ok-next_line.ensures.steady (c.loop-number.invariant.steady s);
    }
