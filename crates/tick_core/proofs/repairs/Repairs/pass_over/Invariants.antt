use Rattle.std.proofs.Common.{◌≡◌, ◌+◌, ◌≤◌, length}
use Rattle.tick_core.specs.{with_waiting, with_all_wanted, IsSpent}
use Rattle.tick_core.proofs.repairs.Repairs.pass_over.Given as goal

-- Once so many wait, those that are left lead to the same end, and nothing fits still.
abbrev pub invariant-loop-left : goal.invariant-loop-left
invariant-loop-left l = record {
  so_far : with_all_wanted l.holding l.left (with_waiting l.waiting l.self) ≡ with_all_wanted l.holding l.pending (with_waiting l.before l.fn.self);
  spent : IsSpent l.holding l.self;
  few : l.waiting + length l.left ≤ l.before + length l.pending;
}

abbrev pub decreases-loop-left : goal.decreases-loop-left
decreases-loop-left l = length l.left
