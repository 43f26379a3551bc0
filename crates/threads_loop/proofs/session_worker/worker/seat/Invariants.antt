use Rattle.std.proofs.Common.{◌≡◌, ◌++◌, length, map}
use Rattle.std.specs.Vec.Iter.{into_iter_items}
use Rattle.threads_loop.specs.session_worker.{events_of}
use Rattle.threads_loop.proofs.session_worker.worker.seat.Given as goal

abbrev pub invariant-loop-pass : goal.invariant-loop-pass
invariant-loop-pass l = record {
  can_next : (goal.iterator-loop-pass).can_next l.pass-iterator;
  is_finite : (goal.iterator-loop-pass).is_finite l.pass-iterator;
  passes : map (λ w. w.pass) l.staff.items ++ into_iter_items l.pass-iterator ≡ l.fn.passes.items;
  events : map events_of l.staff.items ++ map (λ v. v.items) (into_iter_items l.lists) ≡ map (λ v. v.items) l.fn.lists.items;
  same : length (into_iter_items l.pass-iterator) ≡ length (into_iter_items l.lists);
}
