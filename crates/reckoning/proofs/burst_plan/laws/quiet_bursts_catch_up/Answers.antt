use Rattle.reckoning.proofs.burst_plan.Running.{quiet_tick, quiet_bursts, no_further}
use Rattle.reckoning.proofs.burst_plan.laws.quiet_bursts_catch_up.Goals as goal

pub returns-clause-nearer : goal.returns-clause-nearer
returns-clause-nearer c = quiet_tick

pub returns-clause-kept : goal.returns-clause-kept
returns-clause-kept c = quiet_bursts

pub returns-clause-within : goal.returns-clause-within
returns-clause-within c = no_further
