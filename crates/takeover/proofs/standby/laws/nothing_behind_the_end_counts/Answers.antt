use Rattle.takeover.proofs.standby.Ending.{stays_ended}
use Rattle.takeover.proofs.standby.laws.nothing_behind_the_end_counts.Goals as goal

pub returns : goal.returns
returns c = λ bytes more o end. stays_ended bytes more o end
