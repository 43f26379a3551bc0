use Rattle.std.proofs.Common.{ℕ, List, subst}
use Rattle.std.specs.Io.KnownBytes.{prepend_known}
use Rattle.line_io.specs.declared.Next.{Next}
use Rattle.line_io.specs.{TakesNext}
use Rattle.trace_loop.specs.trace_book.trace_serving.{turn, event_at}
use Rattle.threads_loop.specs.{threads, Grows, Took}
use Rattle.trace_loop.proofs.EndedTurns.{end_is_told}
use Rattle.threads_loop.proofs.LineByLine.{line_is_told, long_is_told, took_stands}
use Rattle.threads_loop.proofs.reading.next_line.Goals as goal

pub returns-in_ok-take_line-in-Ok-Line-clause-line : goal.returns-in_ok-take_line-in-Ok-Line-clause-line
returns-in_ok-take_line-in-Ok-Line-clause-line g c = λ stage number dealt.
    let d = c.take_line.new.dealt in
    let does = c.in_ok-take_line-in-Ok-Line.field-0 in
    let next = subst (λ (n : Next). TakesNext (prepend_known c.args.reader.now.kept (g.S.Source.left c.args.source.now)) (prepend_known c.advance.new.self.kept (g.S.Source.left c.advance.new.source)) c.advance.new.self.line n) c.in-Ok-Line.field-0-is c.in-Ok-Line.ensures.next in
    let took = subst (λ (l : List ℕ). Took d stage (turn threads stage number l) number does) c.line.ensures (c.in_ok-take_line-in-Ok-Line.ensures.took stage number dealt) in
    let grows = subst (λ (l : List ℕ). Grows does c.args.dealt.now.head.items d.head.items l (event_at threads l)) c.line.ensures c.in_ok-take_line-in-Ok-Line.ensures.head in
    line_is_told c.args.dealt.now d _ _ _ stage number does next took grows

pub returns-in_ok-take_line-in-Ok-Line-clause-stands : goal.returns-in_ok-take_line-in-Ok-Line-clause-stands
returns-in_ok-take_line-in-Ok-Line-clause-stands g c =
    took_stands c.take_line.new.dealt c.requires.0 (turn threads c.requires.0 0 c.line.result.now) 0 c.in_ok-take_line-in-Ok-Line.field-0 (c.in_ok-take_line-in-Ok-Line.ensures.took c.requires.0 0 c.requires.1)

pub returns-in_ok-take_line-in-Ok-Long-clause-line : goal.returns-in_ok-take_line-in-Ok-Long-clause-line
returns-in_ok-take_line-in-Ok-Long-clause-line g c = λ stage number dealt.
    let d = c.take_line-in-Ok-Long.new.dealt in
    let does = c.in_ok-take_line-in-Ok-Long.field-0 in
    let next = subst (λ (n : Next). TakesNext (prepend_known c.args.reader.now.kept (g.S.Source.left c.args.source.now)) (prepend_known c.advance.new.self.kept (g.S.Source.left c.advance.new.source)) c.advance.new.self.line n) c.in-Ok-Long.field-0-is c.in-Ok-Long.ensures.next in
    let took = subst (λ (l : List ℕ). Took d stage (turn threads stage number l) number does) c.line-in-Ok-Long.ensures (c.in_ok-take_line-in-Ok-Long.ensures.took stage number dealt) in
    long_is_told c.args.dealt.now d _ _ _ stage number does next took

pub returns-in_ok-take_line-in-Ok-Long-clause-stands : goal.returns-in_ok-take_line-in-Ok-Long-clause-stands
returns-in_ok-take_line-in-Ok-Long-clause-stands g c =
    took_stands c.take_line-in-Ok-Long.new.dealt c.requires.0 (turn threads c.requires.0 0 c.line-in-Ok-Long.result.now) 0 c.in_ok-take_line-in-Ok-Long.field-0 (c.in_ok-take_line-in-Ok-Long.ensures.took c.requires.0 0 c.requires.1)

pub returns-in-Ok-End-clause-line : goal.returns-in-Ok-End-clause-line
returns-in-Ok-End-clause-line g c = λ stage number dealt.
    let next = subst (λ (n : Next). TakesNext (prepend_known c.args.reader.now.kept (g.S.Source.left c.args.source.now)) (prepend_known c.advance.new.self.kept (g.S.Source.left c.advance.new.source)) c.advance.new.self.line n) c.in-Ok-End.field-0-is c.in-Ok-End.ensures.next in
    end_is_told threads _ _ _ stage number next
