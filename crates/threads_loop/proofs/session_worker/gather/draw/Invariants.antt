use Rattle.std.proofs.Common.{◌≡◌, map, take, drop}
use Rattle.threads_loop.specs.session_worker.{AreQueues, answered_with, queue_of}
use Rattle.threads_loop.proofs.session_worker.gather.draw.Given as goal

abbrev pub invariant-loop-entry : goal.invariant-loop-entry
invariant-loop-entry l = record {
  queues : AreQueues l._config (drop l.entry-index l.entries) (map queue_of l.queues.items);
  drawn : map (λ d. d.items) l.drawn.items ≡ answered_with l._config (take l.entry-index l.entries);
}
