use Rattle.std.proofs.Common.{◌≡◌, drop}
use Rattle.tick_core.specs.{with_all_wanted}
use Rattle.tick_core.proofs.repairs.Repairs.repair_some.Given as goal

-- Those that are left lead to the same end.
abbrev pub invariant-loop-i : goal.invariant-loop-i
invariant-loop-i l = with_all_wanted l.holding (drop l.i l.pending) l.self ≡ with_all_wanted l.holding l.pending l.fn.self
