use Rattle.std.proofs.Common.{◌≡◌, ◌+◌, ◌-◌, ◌≤◌, length, take, drop, slice_range, ap, ◌∙◌, arith, length-take}
use Rattle.line_io.specs.{Reading}
use Rattle.line_io.proofs.Windows.{slice_range-take}
use Rattle.line_io.proofs.reader.LineReader.cut_front.Goals as goal

pub returns-clause-line : goal.returns-clause-line
returns-clause-line c =
    let r = c.self.inside in
    let kept : slice_range r.bytes.items r.from r.to ≡ c.args.self.now.kept = ap (λ (v : Reading). v.kept) c.self.view_is in
    let size : length (slice_range r.bytes.items r.from r.to) ≡ length c.args.self.now.kept = ap length kept in
    let within : r.from + 4097 ≤ r.to = omega (arith, length-take (r.to - r.from) (drop r.from r.bytes.items), c.requires) in
    let place : r.from + 4096 + 1 ≡ r.from + 4097 = omega arith in
    ap (slice_range r.bytes.items r.from) place ∙ slice_range-take r.bytes.items r.from r.to 4097 within ∙ ap (take 4097) kept
