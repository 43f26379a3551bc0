use Rattle.std.proofs.Common.{◌≡◌, ◌++◌, map}
use Rattle.std.specs.Vec.Iter.{into_iter_items}
use Rattle.meet_loop.specs.world_net.{sent_of}
use Rattle.meet_loop.proofs.world_net.sending.send_orders.Given as goal

abbrev pub invariant-loop-order : goal.invariant-loop-order
invariant-loop-order l = record {
  can_next : (goal.iterator-loop-order).can_next l.order-iterator;
  is_finite : (goal.iterator-loop-order).is_finite l.order-iterator;
  parcels : l.parcels.items ++ map (sent_of l.config) (into_iter_items l.order-iterator) ≡ l.fn.parcels.items ++ map (sent_of l.config) l.fn.orders.items;
}
