-- The answers so far have their datagrams.
use Rattle.std.proofs.Common.{◌≡◌, ◌+◌, ◌++◌, List, length, map}
use Rattle.std.specs.Vec.Iter.{into_iter_items}
use Rattle.std.specs.Global.{Vec}
use Rattle.rams_model.specs.declared.Octets.{Octets}
use Rattle.threads_loop.specs.session_worker.live_writer.{HasDrawn}
use Rattle.threads_loop.proofs.session_worker.live_writer.writer.place_all.Given as goal

abbrev pub invariant-loop-datagrams : goal.invariant-loop-datagrams
invariant-loop-datagrams l = record {
  can_next : (goal.iterator-loop-datagrams).can_next l.datagrams-iterator;
  is_finite : (goal.iterator-loop-datagrams).is_finite l.datagrams-iterator;
  drawn : (done : List (Vec Octets)) × (done ++ into_iter_items l.datagrams-iterator ≡ l.fn.drawn.items) × (l.next ≡ l.place + length done)
      × HasDrawn l.place (map (λ d. d.items) done) l.fn.all.items l.all.items;
}
