use Rattle.std.proofs.Common.{ℕ, List, subst}
use Rattle.std.specs.Io.KnownBytes.{prepend_known}
use Rattle.line_io.specs.declared.Next.{Next}
use Rattle.line_io.specs.{TakesNext}
use Rattle.trace_loop.specs.trace_book.trace_serving.{turn}
use Rattle.trace_loop.specs.trace_book.{run}
use Rattle.trace_loop.specs.head_loop.{Grows, Took}
use Rattle.trace_loop.proofs.head_loop.HeadLines.{line_is_told, long_is_told, end_is_told, took_stands}
use Rattle.trace_loop.proofs.head_loop.head.next_line.Goals as goal

pub returns-in_ok-take_line-in-Ok-Line-clause-line : goal.returns-in_ok-take_line-in-Ok-Line-clause-line
returns-in_ok-take_line-in-Ok-Line-clause-line g c = λ stage number opened.
    let o = c.take_line.new.opening in
    let next = subst (λ (n : Next). TakesNext (prepend_known c.args.reader.now.kept (g.S.Source.left c.args.source.now)) (prepend_known c.advance.new.self.kept (g.S.Source.left c.advance.new.source)) c.advance.new.self.line n) c.in-Ok-Line.field-0-is c.in-Ok-Line.ensures.next in
    let took = subst (λ (l : List ℕ). Took stage (turn run stage number l) o.hub o.ids.items o.state number c.in_ok-take_line-in-Ok-Line.field-0) c.line.ensures (c.in_ok-take_line-in-Ok-Line.ensures.took stage number opened) in
    let grows = subst (λ (l : List ℕ). Grows c.in_ok-take_line-in-Ok-Line.field-0 c.args.opening.now.text.items o.text.items l) c.line.ensures c.in_ok-take_line-in-Ok-Line.ensures.text in
    line_is_told _ _ _ stage number _ _ _ _ _ _ next took grows

pub returns-in_ok-take_line-in-Ok-Line-clause-stands : goal.returns-in_ok-take_line-in-Ok-Line-clause-stands
returns-in_ok-take_line-in-Ok-Line-clause-stands g c =
    let o = c.take_line.new.opening in
    took_stands c.requires.0 (turn run c.requires.0 0 c.line.result.now) o.hub o.ids.items o.state 0 c.in_ok-take_line-in-Ok-Line.field-0 (c.in_ok-take_line-in-Ok-Line.ensures.took c.requires.0 0 c.requires.1)

pub returns-in_ok-take_line-in-Ok-Long-clause-line : goal.returns-in_ok-take_line-in-Ok-Long-clause-line
returns-in_ok-take_line-in-Ok-Long-clause-line g c = λ stage number opened.
    let o = c.take_line-in-Ok-Long.new.opening in
    let next = subst (λ (n : Next). TakesNext (prepend_known c.args.reader.now.kept (g.S.Source.left c.args.source.now)) (prepend_known c.advance.new.self.kept (g.S.Source.left c.advance.new.source)) c.advance.new.self.line n) c.in-Ok-Long.field-0-is c.in-Ok-Long.ensures.next in
    let took = subst (λ (l : List ℕ). Took stage (turn run stage number l) o.hub o.ids.items o.state number c.in_ok-take_line-in-Ok-Long.field-0) c.line-in-Ok-Long.ensures (c.in_ok-take_line-in-Ok-Long.ensures.took stage number opened) in
    long_is_told _ _ _ stage number _ _ _ _ _ _ next took

pub returns-in_ok-take_line-in-Ok-Long-clause-stands : goal.returns-in_ok-take_line-in-Ok-Long-clause-stands
returns-in_ok-take_line-in-Ok-Long-clause-stands g c =
    let o = c.take_line-in-Ok-Long.new.opening in
    took_stands c.requires.0 (turn run c.requires.0 0 c.line-in-Ok-Long.result.now) o.hub o.ids.items o.state 0 c.in_ok-take_line-in-Ok-Long.field-0 (c.in_ok-take_line-in-Ok-Long.ensures.took c.requires.0 0 c.requires.1)

pub returns-in-Ok-End-clause-line : goal.returns-in-Ok-End-clause-line
returns-in-Ok-End-clause-line g c = λ stage number opened.
    let next = subst (λ (n : Next). TakesNext (prepend_known c.args.reader.now.kept (g.S.Source.left c.args.source.now)) (prepend_known c.advance.new.self.kept (g.S.Source.left c.advance.new.source)) c.advance.new.self.line n) c.in-Ok-End.field-0-is c.in-Ok-End.ensures.next in
    end_is_told _ _ _ stage number next
