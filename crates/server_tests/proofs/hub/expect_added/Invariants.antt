use Rattle.std.proofs.Common.{◌≡◌}
use Rattle.server_tests.proofs.hub.expect_added.Given as goal

abbrev pub invariant-loop-id : goal.invariant-loop-id
invariant-loop-id g l = l.hub.calls ≡ l.fn.hub.calls
