use Rattle.std.proofs.Common.{arith}
use Rattle.server_hub.proofs.Linked.{all_tick}
use Rattle.server_hub.proofs.Together.{kept_within, nothing_sent}
use Rattle.server_hub.proofs.laws.ticks_stay_within_the_link.Goals as goal

pub returns-clause-budget : goal.returns-clause-budget
returns-clause-budget c link channels fits = omega (arith, all_tick channels)

pub returns-clause-most : goal.returns-clause-most
returns-clause-most c link channels fits = (kept_within channels, omega (arith, all_tick channels, kept_within channels))

pub returns-clause-ticks : goal.returns-clause-ticks
returns-clause-ticks c event channels other = nothing_sent event channels other
