use Rattle.std.proofs.Common.{◌≤◌}
use Rattle.receiver_core.specs.{reach}
use Rattle.receiver_tests.proofs.row.expect_rows.Given as goal

abbrev pub invariant-loop-call : goal.invariant-loop-call
invariant-loop-call g l = reach l.receiver ≤ l.call-index
