use Rattle.std.proofs.Common.{◌≡◌, ◌+◌, drop, nat_lt}
use Rattle.std.specs.List.{position_or_len}
use Rattle.channel_cache.proofs.reorder_window.kept.place_of.Given as goal

-- the place is in the rest
abbrev pub invariant-loop-i : goal.invariant-loop-i
invariant-loop-i g l = position_or_len (λ e. nat_lt l.n e.0) l.kept ≡ l.i + position_or_len (λ e. nat_lt l.n e.0) (drop l.i l.kept)
