use Rattle.meet_loop.proofs.world_laws.Told.{delivered}
use Rattle.meet_loop.proofs.world_laws.laws.each_receiver_presents_what_is_delivered.Goals as goal

pub returns : goal.returns
returns c = delivered
