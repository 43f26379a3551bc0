use Rattle.std.proofs.Common.{◌≡◌, length}
use Rattle.cache_tests.proofs.reordering.drain.Given as goal

abbrev pub invariant-loop-item : goal.invariant-loop-item
invariant-loop-item l = l.window.ended ≡ l.fn.window.ended

-- each release leaves fewer items
abbrev pub decreases-loop-item : goal.decreases-loop-item
decreases-loop-item l = length l.window.kept
