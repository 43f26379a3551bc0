use Rattle.std.proofs.Common.{◌≡◌, ◌+◌, drop, slice_range, ap, ◌∙◌, arith}
use Rattle.line_io.specs.{Reading}
use Rattle.line_io.proofs.Windows.{slice_range-drop}
use Rattle.line_io.proofs.reader.LineReader.cut.Goals as goal

pub returns-clause-kept : goal.returns-clause-kept
returns-clause-kept c =
    let r = c.self.inside in
    let n = c.args.at + 1 in
    let place : r.from + c.args.at + 1 ≡ r.from + n = omega arith in
    ap (λ k. slice_range r.bytes.items k r.to) place ∙ slice_range-drop r.bytes.items r.from r.to n
    ∙ ap (λ (v : Reading). drop n v.kept) c.self.view_is
