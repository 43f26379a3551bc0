use Rattle.std.proofs.Common.{◌≡◌}
use Rattle.client_table.specs.{due_left}
use Rattle.tick_core.specs.{with_due_forgotten, with_all_forgotten}
use Rattle.tick_core.proofs.forgetting.forget_clients.Given as goal

-- Those who are left lead to the same end as all known clients.
abbrev pub invariant-loop-client : goal.invariant-loop-client
invariant-loop-client l = record {
  can_next : (goal.iterator-loop-client).can_next l.client-iterator;
  is_finite : (goal.iterator-loop-client).is_finite l.client-iterator;
  draft : with_due_forgotten l.config l.queue l.table (due_left l.client-iterator) l.draft ≡ with_all_forgotten l.config l.queue l.table.known l.fn.draft;
}
