use Rattle.std.proofs.Common.{[], ◌∷◌, ◌++◌, List, refl, sym, ap, ◌∙◌, subst, append_assoc}
use Rattle.std.specs.Vec.Iter.{into_iter_items}
use Rattle.server_hub.specs.{Pairwise}
use Rattle.server_hub.proofs.Pairing.{pair_more}
use Rattle.pool.specs.declared.pool_loop.dealing.Coming.{Coming}
use Rattle.pool.specs.pool_loop.{IsLaneOf}
use Rattle.pool.proofs.pool_loop.lanes.lanes_of.Goals as goal

pub loop-coming-preserved : goal.loop-coming-preserved
loop-coming-preserved c =
    let i = c.loop-coming.invariant in
    let steps = c.in-Some.ensures.steps in
    let later = into_iter_items c.next.new.self in
    let done = i.paired.0 in
    let coming = c.in-Some.coming in
    let core = c.in_ok-core.ensures in
    record {
      can_next = tt;
      is_finite = tt;
      paired = (
        done ++ coming ∷ [],
        append_assoc done (coming ∷ []) later ∙ (ap (λ (l : List Coming). done ++ l) (sym steps.0) ∙ i.paired.1),
        subst (Pairwise IsLaneOf (done ++ coming ∷ [])) (sym c.in_ok-push.ensures.items)
            (pair_more IsLaneOf done c.loop-coming.lanes.items coming _ i.paired.2 (record { settings = core.settings; stands = core.stands; events = refl })),
      );
    }
