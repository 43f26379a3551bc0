-- Those that are left may be changed, and after that all are; no other slot is. No client stands elsewhere, nor is idle longer.
use Rattle.std.proofs.Common.{◌≡◌, ℕ, drop, IsSomeAnd}
use Rattle.client_table.specs.{slot_at, entry_at, IsFree, AreReady, IsBurstChanged, times_at}
use Rattle.client_table.proofs.Changing.{LeadsToAll}
use Rattle.client_table.proofs.table.change_each.Given as goal

abbrev pub invariant-loop-key : goal.invariant-loop-key
invariant-loop-key g l = record {
  ready : AreReady (λ _ e. IsSomeAnd e.burst (goal.F-pre g l.change)) (entry_at l.tick l.entries.slots) (drop l.key-index l.bursts);
  changed : LeadsToAll (λ _. IsBurstChanged (goal.F-post g l.change)) (entry_at l.tick l.fn.entries.slots) (entry_at l.tick l.entries.slots) l.bursts (drop l.key-index l.bursts);
  others : (key : ℕ) → IsFree key l.bursts → slot_at l.entries.slots key ≡ slot_at l.fn.entries.slots key;
  times : (key : ℕ) → times_at l.tick l.entries.slots key ≡ times_at l.tick l.fn.entries.slots key;
}
