use Rattle.std.proofs.Common.{◌≡◌}
use Rattle.generated.specs.trace_gen.{IsReady}
use Rattle.generated.specs.generated_run.{IsRunning}
use Rattle.generated.proofs.generated_run.run.summary_by.Given as goal

abbrev pub invariant-loop-events : goal.invariant-loop-events
invariant-loop-events l = IsRunning l.seed l.blocks l.events l.at l.core l.tally × (l.at.seed ≡ l.seed) × IsReady l.at l.ready
