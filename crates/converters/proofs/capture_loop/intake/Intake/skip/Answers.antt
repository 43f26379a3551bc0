use Rattle.std.proofs.Common.{drop, ap, ◌∙◌}
use Rattle.line_io.proofs.Windows.{slice_range-drop}
use Rattle.converters.proofs.capture_loop.intake.Intake.skip.Goals as goal

pub returns : goal.returns
returns c =
    let r = c.self.inside in
    slice_range-drop r.bytes.items r.from r.to c.args.count ∙ ap (drop c.args.count) c.self.view_is
