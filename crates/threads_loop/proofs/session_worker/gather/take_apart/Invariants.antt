use Rattle.std.proofs.Common.{◌≡◌, ◌++◌, map, reverse, All}
use Rattle.std.specs.Prelude.{IsOk}
use Rattle.std.specs.Vec.Iter.{into_iter_items}
use Rattle.threads_loop.specs.session_worker.{drawn_by, queue_of}
use Rattle.threads_loop.proofs.session_worker.gather.take_apart.Given as goal

abbrev pub invariant-loop-worker : goal.invariant-loop-worker
invariant-loop-worker l = record {
  can_next : (goal.iterator-loop-worker).can_next l.worker-iterator;
  is_finite : (goal.iterator-loop-worker).is_finite l.worker-iterator;
  passes : l.passes.items ++ map (λ w. w.pass) (into_iter_items l.worker-iterator) ≡ map (λ w. w.pass) l.fn.staff.items;
  queues : map queue_of l.queues.items ++ map (λ w. reverse (drawn_by w)) (into_iter_items l.worker-iterator) ≡ map (λ w. reverse (drawn_by w)) l.fn.staff.items;
  wrote : All (λ w. IsOk w.wrote) (into_iter_items l.worker-iterator) → All (λ w. IsOk w.wrote) l.fn.staff.items;
}
