use Rattle.std.proofs.Common.{[], arith}
use Rattle.server_tests.proofs.row.expect_case.Goals as goal

pub expect-expected-requires : goal.expect-expected-requires
expect-expected-requires c d = ([], d.in_ok-core.ensures, omega (arith, d.requires))
