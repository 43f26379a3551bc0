use Rattle.std.proofs.Common.{◌≡◌, ◌++◌, drop}
use Rattle.repair_queue.specs.{all_of}
use Rattle.tick_core.specs.{with_all_wanted}
use Rattle.tick_core.proofs.repairs.Repairs.repair_held.Given as goal

-- Those that are left lead to the same end.
abbrev pub invariant-loop-i : goal.invariant-loop-i
invariant-loop-i l = with_all_wanted l.holding (all_of (drop l.i l.pieces) ++ l.last) l.self ≡ with_all_wanted l.holding l.queue l.fn.self
