use Rattle.std.proofs.Common.{◌≡◌}
use Rattle.receiver_core.specs.{reach}
use Rattle.receiver_tests.proofs.row.expect_shown.Given as goal

abbrev pub invariant-loop-n : goal.invariant-loop-n
invariant-loop-n g l = reach l.receiver ≡ reach l.fn.receiver
