use Rattle.std.proofs.Common.{arith}
use Rattle.server_hub.proofs.Together.{over_events, kept_within}
use Rattle.server_hub.proofs.laws.channels_stay_within_the_link.Goals as goal

pub returns-clause-budget : goal.returns-clause-budget
returns-clause-budget c link channels events fits = over_events link channels events fits

pub returns-clause-most : goal.returns-clause-most
returns-clause-most c link channels events fits = omega (arith, over_events link channels events fits, kept_within channels)
