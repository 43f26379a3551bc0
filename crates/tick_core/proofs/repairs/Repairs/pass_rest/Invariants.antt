use Rattle.std.proofs.Common.{◌≡◌, ◌+◌, ◌≤◌, ◌++◌, length, drop}
use Rattle.repair_queue.specs.declared.wanted.TheConstants.{MOST_PENDING}
use Rattle.repair_queue.specs.{all_of}
use Rattle.tick_core.specs.{with_waiting, with_all_wanted, IsSpent}
use Rattle.tick_core.proofs.repairs.Repairs.pass_rest.Given as goal

-- Once so many wait, those that are left lead to the same end, and nothing fits still.
abbrev pub invariant-loop-piece : goal.invariant-loop-piece
invariant-loop-piece l = record {
  so_far : with_all_wanted l.holding (all_of (drop l.piece-index l.pieces) ++ l.last) (with_waiting l.waiting l.self) ≡ with_all_wanted l.holding (all_of l.pieces ++ l.last) l.fn.self;
  spent : IsSpent l.holding l.self;
  few : l.waiting + length (all_of (drop l.piece-index l.pieces) ++ l.last) ≤ MOST_PENDING;
}
