use Rattle.std.proofs.Common.{ap, ◌∙◌}
use Rattle.std.proofs.lemmas.Result.{IfOk-weaker}
use Rattle.tick_core.specs.{with_all_wanted}
use Rattle.tick_core.proofs.Piecewise.{none_wait}
use Rattle.tick_core.proofs.repairs.Repairs.pass_some.Goals as goal

pub returns : goal.returns
returns c =
    IfOk-weaker c.wait_all.result _ _
    (λ x made. made ∙ (c.in_ok-waiting.ensures.passed ∙ ap (with_all_wanted c.args.holding.now c.args.pending.now) (none_wait c.args.self.now)))
    c.wait_all.ensures
