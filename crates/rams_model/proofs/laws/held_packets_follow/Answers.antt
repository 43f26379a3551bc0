use Rattle.rams_model.specs.Service.{hold}
use Rattle.rams_model.proofs.Holding.{longest_end, held_follow, held_from}
use Rattle.rams_model.proofs.laws.held_packets_follow.Goals as goal

pub returns-clause-longest : goal.returns-clause-longest
returns-clause-longest c = longest_end

pub returns-clause-follow : goal.returns-clause-follow
returns-clause-follow c s history = (held_follow s history, λ n le within. held_from n (hold s history) (held_follow s history) le within)
