-- All known clients but those that are still to be looked at stand in time.
use Rattle.std.proofs.Common.{◌≡◌, ℕ}
use Rattle.client_table.specs.{entry_at, times_at, waiting, AreInTime}
use Rattle.client_table.proofs.table.look_again.Given as goal

abbrev pub invariant-loop-client : goal.invariant-loop-client
invariant-loop-client l = record {
  times : AreInTime l.due (times_at l.tick l.entries.slots) l.index.entries;
  shown : (key : ℕ) → entry_at l.tick l.entries.slots key ≡ entry_at l.tick l.fn.entries.slots key;
}

abbrev pub decreases-loop-client : goal.decreases-loop-client
decreases-loop-client l = waiting l.due
