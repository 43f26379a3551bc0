use Rattle.std.proofs.Common.{subst}
use Rattle.std.proofs.lemmas.List.{take_more}
use Rattle.server_hub.specs.session_core.{IsPlanOf}
use Rattle.server_hub.proofs.Pairing.{pair_more}
use Rattle.server_hub.proofs.ticks.plan_all.Goals as goal

pub loop-core-preserved : goal.loop-core-preserved
loop-core-preserved c =
    rw (take_more c.args.cores.now c.loop-core.core-index c.core-item.result c.loop-core-test.true, c.in_ok-push.ensures.items)
    (pair_more IsPlanOf _ _ _ _ c.loop-core.invariant (subst (λ core. IsPlanOf core c.in_ok-plan_tick.field-0) c.core-item.is c.in_ok-plan_tick.ensures.plan))
