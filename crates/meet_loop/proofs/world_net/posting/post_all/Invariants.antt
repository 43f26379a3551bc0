use Rattle.std.proofs.Common.{◌≡◌, ◌++◌, map}
use Rattle.std.specs.Vec.Iter.{into_iter_items}
use Rattle.meet_loop.specs.world_net.{post_at, posted_at}
use Rattle.meet_loop.proofs.world_net.posting.post_all.Given as goal

abbrev pub invariant-loop-datagram : goal.invariant-loop-datagram
invariant-loop-datagram l = record {
  can_next : (goal.iterator-loop-datagram).can_next l.datagram-iterator;
  is_finite : (goal.iterator-loop-datagram).is_finite l.datagram-iterator;
  notes : l.notes.items ++ map (post_at l.id l.client) (into_iter_items l.datagram-iterator) ≡ l.fn.notes.items ++ map (post_at l.id l.client) l.fn.datagrams.items;
  parcels : l.parcels.items ++ map (posted_at l.id l.client) (into_iter_items l.datagram-iterator) ≡ l.fn.parcels.items ++ map (posted_at l.id l.client) l.fn.datagrams.items;
}
