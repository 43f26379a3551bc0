use Rattle.std.proofs.Common.{◌≡◌, All, Some}
use Rattle.client_table.specs.{entry_of, opened_of, bursts_left}
use Rattle.tick_core.specs.{told_by, with_all_served}
use Rattle.tick_core.proofs.Walking.{AreTrue, LeadToAll}
use Rattle.tick_core.proofs.Leading.{Leads}
use Rattle.tick_core.proofs.runs.serve_clients.Given as goal

-- Those who are left lead to the same end; each allowance so far is a client's.
abbrev pub invariant-loop-client : goal.invariant-loop-client
invariant-loop-client g l = record {
  can_next : (goal.iterator-loop-client g).can_next l.client-iterator;
  is_finite : (goal.iterator-loop-client g).is_finite l.client-iterator;
  found : All (λ e. entry_of l.table e.0 ≡ Some e.1) (bursts_left l.client-iterator);
  draft : Leads g.D.Drafting.shows (with_all_served l.config l.cache.held l.table.known) (with_all_served l.config l.cache.held (bursts_left l.client-iterator)) l.fn.draft l.draft;
  each : AreTrue l.config l.cache.held l.table (told_by l.allowances);
  all : LeadToAll (told_by l.allowances) (bursts_left l.client-iterator) (opened_of l.table);
}
