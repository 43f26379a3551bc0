use Rattle.std.proofs.Common.{take}
use Rattle.server_hub.specs.session_core.{IsPlanOf}
use Rattle.server_hub.specs.{Pairwise}
use Rattle.server_hub.proofs.ticks.plan_all.Given as goal

abbrev pub invariant-loop-core : goal.invariant-loop-core
invariant-loop-core l = Pairwise IsPlanOf (take l.core-index l.cores) l.plans.items
