use Rattle.std.proofs.Common.{List, ℕ, subst}
use Rattle.std.specs.Io.KnownBytes.{prepend_known}
use Rattle.line_io.specs.declared.Next.{Next}
use Rattle.line_io.specs.{TakesNext}
use Rattle.trace_loop.specs.trace_book.trace_serving.{turn}
use Rattle.trace_loop.specs.{Took, ending, written}
use Rattle.trace_loop.proofs.FirstTurn.{goes_somewhere, line_is_told, long_is_told, end_is_told}
use Rattle.trace_loop.proofs.lines.next_turn.Goals as goal

pub returns-in_ok-take_line-in-Ok-Line-clause-turn : goal.returns-in_ok-take_line-in-Ok-Line-clause-turn
returns-in_ok-take_line-in-Ok-Line-clause-turn g c = λ stage number stands.
    let next = subst (λ (n : Next). TakesNext (prepend_known c.args.reader.now.kept (g.S.Source.left c.args.source.now)) (prepend_known c.advance.new.self.kept (g.S.Source.left c.advance.new.source)) c.advance.new.self.line n) c.in-Ok-Line.field-0-is c.in-Ok-Line.ensures.next in
    let t = c.in_ok-take_line-in-Ok-Line.field-0 in
    let took = subst (λ (l : List ℕ). Took (turn g.V.TraceServer.serving stage number l) (g.V.TraceServer.stands c.take_line.new.self) (ending t) (written (g.V.TraceServer.lines c.take_line.new.self) number t)) c.line.ensures (c.in_ok-take_line-in-Ok-Line.ensures.turn stage number stands) in
    line_is_told g.V.TraceServer.serving _ _ _ stage number _ _ _ next took

pub returns-in_ok-take_line-in-Ok-Long-clause-turn : goal.returns-in_ok-take_line-in-Ok-Long-clause-turn
returns-in_ok-take_line-in-Ok-Long-clause-turn g c = λ stage number stands.
    let next = subst (λ (n : Next). TakesNext (prepend_known c.args.reader.now.kept (g.S.Source.left c.args.source.now)) (prepend_known c.advance.new.self.kept (g.S.Source.left c.advance.new.source)) c.advance.new.self.line n) c.in-Ok-Long.field-0-is c.in-Ok-Long.ensures.next in
    let t = c.in_ok-take_line-in-Ok-Long.field-0 in
    let took = subst (λ (l : List ℕ). Took (turn g.V.TraceServer.serving stage number l) (g.V.TraceServer.stands c.take_line-in-Ok-Long.new.self) (ending t) (written (g.V.TraceServer.lines c.take_line-in-Ok-Long.new.self) number t)) c.line-in-Ok-Long.ensures (c.in_ok-take_line-in-Ok-Long.ensures.turn stage number stands) in
    long_is_told g.V.TraceServer.serving _ _ _ stage number _ _ _ next took

pub returns-in-Ok-End-clause-turn : goal.returns-in-Ok-End-clause-turn
returns-in-Ok-End-clause-turn g c = λ stage number stands.
    let next = subst (λ (n : Next). TakesNext (prepend_known c.args.reader.now.kept (g.S.Source.left c.args.source.now)) (prepend_known c.advance.new.self.kept (g.S.Source.left c.advance.new.source)) c.advance.new.self.line n) c.in-Ok-End.field-0-is c.in-Ok-End.ensures.next in
    end_is_told g.V.TraceServer.serving _ _ _ stage number (g.V.TraceServer.stands c.args.server.now) next

pub returns-in_ok-take_line-in-Ok-Line-clause-stands : goal.returns-in_ok-take_line-in-Ok-Line-clause-stands
returns-in_ok-take_line-in-Ok-Line-clause-stands g c = λ none. goes_somewhere _ _ _ _ (c.in_ok-take_line-in-Ok-Line.ensures.turn c.requires.0 0 c.requires.1) none

pub returns-in_ok-take_line-in-Ok-Long-clause-stands : goal.returns-in_ok-take_line-in-Ok-Long-clause-stands
returns-in_ok-take_line-in-Ok-Long-clause-stands g c = λ none. goes_somewhere _ _ _ _ (c.in_ok-take_line-in-Ok-Long.ensures.turn c.requires.0 0 c.requires.1) none
