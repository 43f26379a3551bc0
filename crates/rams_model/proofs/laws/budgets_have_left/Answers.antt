use Rattle.rams_model.proofs.Budgets.{channel_has_left, burst_has_left}
use Rattle.rams_model.proofs.laws.budgets_have_left.Goals as goal

pub returns-clause-channel : goal.returns-clause-channel
returns-clause-channel c = channel_has_left

pub returns-clause-burst : goal.returns-clause-burst
returns-clause-burst c = burst_has_left
