use Rattle.std.proofs.Common.{◌≡◌, ◌++◌, List}
use Rattle.std.specs.Vec.Iter.{into_iter_items}
use Rattle.server_hub.specs.{Pairwise}
use Rattle.pool.specs.declared.pool_loop.dealing.Coming.{Coming}
use Rattle.pool.specs.pool_loop.{IsLaneOf}
use Rattle.pool.proofs.pool_loop.lanes.lanes_of.Given as goal

abbrev pub invariant-loop-coming : goal.invariant-loop-coming
invariant-loop-coming l = record {
  can_next : (goal.iterator-loop-coming).can_next l.coming-iterator;
  is_finite : (goal.iterator-loop-coming).is_finite l.coming-iterator;
  paired : (done : List Coming) × (done ++ into_iter_items l.coming-iterator ≡ l.fn.channels.items) × Pairwise IsLaneOf done l.lanes.items;
}
