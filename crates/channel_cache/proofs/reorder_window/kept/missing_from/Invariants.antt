use Rattle.std.proofs.Common.{◌≡◌, ◌+◌, ◌≤◌, drop}
use Rattle.channel_cache.specs.reorder_window.{next_missing}
use Rattle.channel_cache.proofs.reorder_window.kept.missing_from.Given as goal

-- the search goes on from n in the rest
abbrev pub invariant-loop-e : goal.invariant-loop-e
invariant-loop-e g l = (next_missing l.n (drop l.e-index l.kept) ≡ next_missing l.from l.kept) × (l.n ≤ l.from + l.e-index)
