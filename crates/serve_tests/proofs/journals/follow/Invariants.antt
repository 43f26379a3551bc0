use Rattle.takeover.specs.standby.{HasReadSome}
use Rattle.serve_tests.proofs.journals.follow.Given as goal

abbrev pub invariant-loop : goal.invariant-loop
invariant-loop l = HasReadSome l.standby
