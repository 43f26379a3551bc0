use Rattle.std.proofs.Common.{◌≤◌, length}
use Rattle.std.specs.Vec.{vec_capacity}
use Rattle.std.specs.Vec.Iter.{into_iter_items}
use Rattle.server_hub.specs.session_core.{IsPlanOf}
use Rattle.server_hub.proofs.Halfway.{Halfway}
use Rattle.server_hub.proofs.ticks.commit_all.Given as goal

abbrev pub invariant-loop-core : goal.invariant-loop-core
invariant-loop-core l = record {
  halfway : Halfway IsPlanOf l.fn.cores l.cores (into_iter_items l.plans) l.answers.items l.core-index;
  room : length l.fn.cores ≤ vec_capacity l.answers;
}
