use Rattle.std.proofs.Common.{◌≡◌, List, ◌++◌, All}
use Rattle.std.specs.List.{AllByRecursion as Each}
use Rattle.std.specs.Vec.Iter.{into_iter_items}
use Rattle.pool.specs.link_pool.{Claimer}
use Rattle.pool.specs.link_pool.Parties.{HasGathered, Carries}
use Rattle.pool.proofs.link_pool.seats.gather.Given as goal

abbrev pub invariant-loop-taker : goal.invariant-loop-taker
invariant-loop-taker l = record {
  can_next : (goal.iterator-loop-taker).can_next l.taker-iterator;
  is_finite : (goal.iterator-loop-taker).is_finite l.taker-iterator;
  table : l.seat.table_id ≡ l.fn.link.table_id;
  made : All (λ t. t.pool ≡ l.fn.link.table_id) (into_iter_items l.taker-iterator);
  gathered : (done : List Claimer) × (done ++ into_iter_items l.taker-iterator ≡ l.fn.takers.items) × Each Carries done × HasGathered l.fn.seat.me.0.granted done l.seat.me;
}
