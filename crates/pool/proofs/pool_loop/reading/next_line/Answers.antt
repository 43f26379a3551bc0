use Rattle.std.proofs.Common.{ℕ, List, subst}
use Rattle.std.specs.Io.KnownBytes.{prepend_known}
use Rattle.line_io.specs.declared.Next.{Next}
use Rattle.line_io.specs.{TakesNext}
use Rattle.trace_loop.specs.trace_book.{event_at}
use Rattle.trace_loop.specs.trace_book.trace_serving.{turn}
use Rattle.pool.specs.pool_loop.{pool, Took}
use Rattle.trace_loop.proofs.EndedTurns.{end_is_told}
use Rattle.pool.proofs.pool_loop.LineByLine.{line_is_told, long_is_told, took_stands}
use Rattle.pool.proofs.pool_loop.reading.next_line.Goals as goal

pub returns-in_ok-take_line-in-Ok-Line-clause-line : goal.returns-in_ok-take_line-in-Ok-Line-clause-line
returns-in_ok-take_line-in-Ok-Line-clause-line g c = λ came stage number dealt.
    let d = c.take_line.new.dealt in
    let does = c.in_ok-take_line-in-Ok-Line.field-0 in
    let next = subst (λ (n : Next). TakesNext (prepend_known c.args.reader.now.kept (g.S.Source.left c.args.source.now)) (prepend_known c.advance.new.self.kept (g.S.Source.left c.advance.new.source)) c.advance.new.self.line n) c.in-Ok-Line.field-0-is c.in-Ok-Line.ensures.next in
    let took = subst (λ (l : List ℕ). Took d came (event_at l) stage (turn pool stage number l) number does) c.line.ensures (c.in_ok-take_line-in-Ok-Line.ensures came stage number dealt) in
    line_is_told d _ _ _ came stage number does next took

pub returns-in_ok-take_line-in-Ok-Line-clause-stands : goal.returns-in_ok-take_line-in-Ok-Line-clause-stands
returns-in_ok-take_line-in-Ok-Line-clause-stands g c =
    let came = c.requires.0 in
    let stage = c.requires.1 in
    took_stands c.take_line.new.dealt came (event_at c.line.result.now) stage (turn pool stage 0 c.line.result.now) 0 c.in_ok-take_line-in-Ok-Line.field-0 (c.in_ok-take_line-in-Ok-Line.ensures came stage 0 c.requires.2)

pub returns-in_ok-take_line-in-Ok-Long-clause-line : goal.returns-in_ok-take_line-in-Ok-Long-clause-line
returns-in_ok-take_line-in-Ok-Long-clause-line g c = λ came stage number dealt.
    let d = c.take_line-in-Ok-Long.new.dealt in
    let does = c.in_ok-take_line-in-Ok-Long.field-0 in
    let next = subst (λ (n : Next). TakesNext (prepend_known c.args.reader.now.kept (g.S.Source.left c.args.source.now)) (prepend_known c.advance.new.self.kept (g.S.Source.left c.advance.new.source)) c.advance.new.self.line n) c.in-Ok-Long.field-0-is c.in-Ok-Long.ensures.next in
    let took = subst (λ (l : List ℕ). Took d came (event_at l) stage (turn pool stage number l) number does) c.line-in-Ok-Long.ensures (c.in_ok-take_line-in-Ok-Long.ensures came stage number dealt) in
    long_is_told d _ _ _ came stage number does next took

pub returns-in_ok-take_line-in-Ok-Long-clause-stands : goal.returns-in_ok-take_line-in-Ok-Long-clause-stands
returns-in_ok-take_line-in-Ok-Long-clause-stands g c =
    let came = c.requires.0 in
    let stage = c.requires.1 in
    took_stands c.take_line-in-Ok-Long.new.dealt came (event_at c.line-in-Ok-Long.result.now) stage (turn pool stage 0 c.line-in-Ok-Long.result.now) 0 c.in_ok-take_line-in-Ok-Long.field-0
    (c.in_ok-take_line-in-Ok-Long.ensures came stage 0 c.requires.2)

pub returns-in-Ok-End-clause-line : goal.returns-in-Ok-End-clause-line
returns-in-Ok-End-clause-line g c = λ came stage number dealt.
    let next = subst (λ (n : Next). TakesNext (prepend_known c.args.reader.now.kept (g.S.Source.left c.args.source.now)) (prepend_known c.advance.new.self.kept (g.S.Source.left c.advance.new.source)) c.advance.new.self.line n) c.in-Ok-End.field-0-is c.in-Ok-End.ensures.next in
    end_is_told pool _ _ _ stage number next
