use Rattle.std.proofs.Common.{◌<◌, length, sym, ap, ◌∙◌, arith}
use Rattle.std.proofs.lemmas.Bool.{eqb-true, eqb-false}
use Rattle.std.proofs.lemmas.List.{nil_from_length}
use Rattle.line_io.proofs.NextLines.{TakesNext-last, TakesNext-end}
use Rattle.line_io.proofs.reader.LineReader.finish.Goals as goal

pub returns-then-is_empty-clause-next : goal.returns-then-is_empty-clause-next
returns-then-is_empty-clause-next c =
    let none = nil_from_length c.kept.result.now (eqb-true _ 0 (sym c.is_empty.ensures ∙ c.if-is_empty.true)) in
    TakesNext-end c.args.self.now.kept c.args.self.now.line (sym c.kept.ensures.kept ∙ none)

pub returns-clause-next : goal.returns-clause-next
returns-clause-next c =
    let some : 0 < length c.args.self.now.kept =
    omega (arith, eqb-false (length c.kept.result.now) 0 (sym c.is_empty.ensures ∙ c.if-is_empty.false), ap length c.kept.ensures.kept) in
    TakesNext-last c.args.self.now.kept c.cut_all.new.self.kept c.cut_all.new.self.line c.requires.clean some c.requires.small c.cut_all.ensures.line c.cut_all.ensures.kept
