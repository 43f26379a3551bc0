use Rattle.std.proofs.Common.{◌≤◌, ◌++◌, List, length, take}
use Rattle.rams_model.specs.Service.{Wanted}
use Rattle.repair_queue.specs.declared.wanted.TheConstants.{MOST_PENDING}
use Rattle.repair_queue.specs.{Indexes}
use Rattle.repair_queue.proofs.index.Index.add_all.Given as goal

-- those so far are in it
abbrev pub invariant-loop-w : goal.invariant-loop-w
invariant-loop-w l = (ws : List Wanted) → length (ws ++ l.pending) ≤ MOST_PENDING → Indexes l.fn.self ws → Indexes l.self (ws ++ take l.w-index l.pending)
