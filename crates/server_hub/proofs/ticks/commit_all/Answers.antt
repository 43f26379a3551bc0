use Rattle.std.proofs.Common.{◌++◌, ◌∷◌, arith, ap, ◌∙◌, sym, subst}
use Rattle.std.specs.Prelude.{◌+◌, List, [], slice_set, is_ok, if◌then◌else◌}
use Rattle.std.specs.Option.{option_to_list}
use Rattle.std.specs.Vec.Iter.{into_iter_items}
use Rattle.server_hub.specs.session_core.{IsPlanOf}
use Rattle.server_hub.specs.declared.event.At.{At}
use Rattle.server_hub.specs.{Pairwise}
use Rattle.server_hub.proofs.Halfway.{Halfway, none_done, next, plan_left, answered, all_done}
use Rattle.server_hub.proofs.ticks.commit_all.Goals as goal

pub loop-core-init : goal.loop-core-init
loop-core-init c = record {
  halfway = none_done IsPlanOf c.args.cores.now (into_iter_items c.into_iter-plans.result) c.args.answers.now.items
      (subst (λ plans. Pairwise IsPlanOf c.args.cores.now plans) (sym c.into_iter-plans.ensures.rest) c.requires.plans) c.requires.none;
  room = c.requires.room;
}

pub unwrap-plan-requires : goal.unwrap-plan-requires
unwrap-plan-requires c =
    c.next.ensures.variant.1 (omega (arith, plan_left IsPlanOf _ _ _ _ _ c.loop-core.invariant.halfway (omega arith), c.loop-core.plans.rest.ok.0))

pub commit-requires : goal.commit-requires
commit-requires c = record {
  plan = (next IsPlanOf _ _ _ _ _ c.unwrap-plan.result (into_iter_items c.next.new.self) c.loop-core.invariant.halfway
      (c.next.ensures.items ∙ ap (λ o. option_to_list o ++ into_iter_items c.next.new.self) c.unwrap-plan.ensures) c.core-item.result).is_plan;
}

pub unwrap-requires : goal.unwrap-requires
unwrap-requires c = c.push.ensures.succeeds (omega (arith, answered IsPlanOf _ _ _ _ _ c.loop-core.invariant.halfway, c.loop-core.answers.ok.0))

pub loop-core-preserved : goal.loop-core-preserved
loop-core-preserved c = record {
  halfway = subst (λ (l : List At). Halfway IsPlanOf c.args.cores.now (slice_set c.loop-core.cores c.loop-core.core-index c.commit.new.core) (into_iter_items c.next.new.self) l (c.loop-core.core-index + 1))
      (sym (c.push.ensures.items ∙ ap (λ r. if is_ok r then c.loop-core.answers.items ++ c.commit.result ∷ [] else c.loop-core.answers.items) c.unwrap.ensures))
      ((next IsPlanOf _ _ _ _ _ c.unwrap-plan.result (into_iter_items c.next.new.self) c.loop-core.invariant.halfway
      (c.next.ensures.items ∙ ap (λ o. option_to_list o ++ into_iter_items c.next.new.self) c.unwrap-plan.ensures) c.core-item.result).more c.commit.new.core c.commit.result c.commit.ensures);
  room = omega (arith, c.push.ensures.capacity);
}

pub returns : goal.returns
returns c = all_done IsPlanOf _ _ _ _ _ c.loop-core.invariant.halfway (omega arith)
