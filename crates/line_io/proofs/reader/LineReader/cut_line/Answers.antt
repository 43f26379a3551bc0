use Rattle.line_io.proofs.NextLines.{TakesNext-cut, TakesNext-cut_late}
use Rattle.line_io.proofs.reader.LineReader.cut_line.Goals as goal

pub returns-then-at-gt-LONGEST-clause-next : goal.returns-then-at-gt-LONGEST-clause-next
returns-then-at-gt-LONGEST-clause-next c =
    TakesNext-cut_late c.args.self.now.kept c.cut_front.new.self.kept c.cut_front.new.self.line c.args.at c.requires c.if-at-gt-LONGEST.true c.cut_front.ensures.line

pub returns-clause-next : goal.returns-clause-next
returns-clause-next c =
    TakesNext-cut c.args.self.now.kept c.cut.new.self.kept c.cut.new.self.line c.args.at c.requires c.if-at-gt-LONGEST.false c.cut.ensures.line c.cut.ensures.kept
