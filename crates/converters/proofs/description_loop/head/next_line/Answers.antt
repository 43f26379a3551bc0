use Rattle.std.proofs.Common.{List, ℕ, subst}
use Rattle.std.specs.Io.KnownBytes.{prepend_known}
use Rattle.line_io.specs.declared.Next.{Next}
use Rattle.line_io.specs.{TakesNext}
use Rattle.converters.specs.description_loop.{Says}
use Rattle.converters.proofs.description_loop.NextLines.{line_says, long_says, end_says}
use Rattle.converters.proofs.description_loop.head.next_line.Goals as goal

pub returns-in-Ok-Line-clause-line : goal.returns-in-Ok-Line-clause-line
returns-in-Ok-Line-clause-line g c =
    let left = prepend_known c.args.reader.now.kept (g.S.Source.left c.args.source.now) in
    let leaves = prepend_known c.advance.new.self.kept (g.S.Source.left c.advance.new.source) in
    let next = subst (λ (n : Next). TakesNext left leaves c.advance.new.self.line n) c.in-Ok-Line.field-0-is c.in-Ok-Line.ensures.next in
    line_says left leaves c.advance.new.self.line c.args.state.now c.judge_line.new.state c.judge_line.result next
    (subst (λ (l : List ℕ). Says c.args.state.now l c.judge_line.new.state c.judge_line.result) c.line.ensures c.judge_line.ensures)

pub returns-in-Ok-Long-clause-line : goal.returns-in-Ok-Long-clause-line
returns-in-Ok-Long-clause-line g c =
    let left = prepend_known c.args.reader.now.kept (g.S.Source.left c.args.source.now) in
    let leaves = prepend_known c.advance.new.self.kept (g.S.Source.left c.advance.new.source) in
    let next = subst (λ (n : Next). TakesNext left leaves c.advance.new.self.line n) c.in-Ok-Long.field-0-is c.in-Ok-Long.ensures.next in
    long_says left leaves c.advance.new.self.line c.args.state.now c.args.state.now next

pub returns-in-Ok-End-clause-line : goal.returns-in-Ok-End-clause-line
returns-in-Ok-End-clause-line g c =
    let left = prepend_known c.args.reader.now.kept (g.S.Source.left c.args.source.now) in
    let leaves = prepend_known c.advance.new.self.kept (g.S.Source.left c.advance.new.source) in
    let next = subst (λ (n : Next). TakesNext left leaves c.advance.new.self.line n) c.in-Ok-End.field-0-is c.in-Ok-End.ensures.next in
    end_says left leaves c.advance.new.self.line c.args.state.now c.args.state.now next
