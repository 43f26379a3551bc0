use Rattle.meet_loop.proofs.world_laws.Serving.{source_came}
use Rattle.meet_loop.proofs.world_laws.channels.each_packet_of_the_source_came.Goals as goal

pub returns : goal.returns
returns c = source_came
