use Rattle.reckoning.proofs.burst_plan.FivePackets.{three_ticks_suffice}
use Rattle.reckoning.proofs.burst_plan.laws.five_packets_in_three_ticks.Goals as goal

pub returns : goal.returns
returns c = three_ticks_suffice
