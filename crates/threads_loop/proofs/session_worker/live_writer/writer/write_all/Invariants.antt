-- The events so far were taken as calls of the list.
use Rattle.std.proofs.Common.{◌≡◌, ◌<◌, ◌≤◌, ◌++◌, List, length}
use Rattle.std.specs.Vec.Iter.{into_iter_items}
use Rattle.rams_model.specs.declared.Event.{Event}
use Rattle.threads_loop.specs.session_worker.live_writer.{HasWritten}
use Rattle.threads_loop.proofs.session_worker.live_writer.writer.write_all.Given as goal

abbrev pub invariant-loop-alloc : goal.invariant-loop-alloc
invariant-loop-alloc g l = record {
  made : g.S.Shared.made l.shared l.pass;
  settings : g.S.Shared.settings l.pass ≡ g.S.Shared.settings l.fn.pass;
  list : g.S.Shared.list l.pass ≡ g.S.Shared.list l.fn.pass;
  calls : length (into_iter_items l.left) ≤ g.S.Shared.left l.pass;
  written : (front : List Event) × (front ++ into_iter_items l.left ≡ l.fn.events.items) × HasWritten (g.S.Shared.list l.fn.pass) l.config front (g.S.Shared.seen l.fn.pass) l.all.items (g.S.Shared.seen l.pass);
  size : (0 < l.size) × (l.size ≤ 1024);
}

abbrev pub decreases-loop-alloc : goal.decreases-loop-alloc
decreases-loop-alloc g l = length (into_iter_items l.left)
