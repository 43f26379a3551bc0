use Rattle.std.proofs.Common.{◌≡◌, false, None}
use Rattle.channel_cache.specs.reorder_window.{first_free}
use Rattle.cache_tests.proofs.reordering.expect_steps.Given as goal

-- the start goes on, and nothing can be released
abbrev pub invariant-loop-n : goal.invariant-loop-n
invariant-loop-n g l = (l.window.ended ≡ false) × (first_free l.window ≡ None)
