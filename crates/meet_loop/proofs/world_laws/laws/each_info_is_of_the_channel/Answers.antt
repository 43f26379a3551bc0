use Rattle.meet_loop.proofs.world_laws.Told.{infos}
use Rattle.meet_loop.proofs.world_laws.laws.each_info_is_of_the_channel.Goals as goal

pub returns : goal.returns
returns c = infos
