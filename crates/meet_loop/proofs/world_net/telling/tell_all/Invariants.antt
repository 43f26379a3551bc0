use Rattle.std.proofs.Common.{◌≡◌, ◌++◌}
use Rattle.std.specs.List.{flat_map}
use Rattle.std.specs.Vec.Iter.{into_iter_items}
use Rattle.server_hub.specs.{settings_of}
use Rattle.meet_loop.specs.world_net.{at_notes, at_sent}
use Rattle.meet_loop.proofs.world_net.telling.tell_all.Given as goal

abbrev pub invariant-loop-at : goal.invariant-loop-at
invariant-loop-at l = record {
  can_next : (goal.iterator-loop-at).can_next l.at-iterator;
  is_finite : (goal.iterator-loop-at).is_finite l.at-iterator;
  notes : l.notes.items ++ flat_map (at_notes (settings_of l.hub)) (into_iter_items l.at-iterator) ≡ l.fn.notes.items ++ flat_map (at_notes (settings_of l.hub)) l.fn.all.items;
  parcels : l.parcels.items ++ flat_map (at_sent (settings_of l.hub)) (into_iter_items l.at-iterator) ≡ l.fn.parcels.items ++ flat_map (at_sent (settings_of l.hub)) l.fn.all.items;
}
