use Rattle.meet_loop.proofs.world_laws.Told.{prefixes}
use Rattle.meet_loop.proofs.world_laws.laws.each_receiver_presents_a_prefix.Goals as goal

pub returns : goal.returns
returns c = prefixes
