use Rattle.channel_cache.proofs.packet_ring.Following.{stand_in_order}
use Rattle.channel_cache.proofs.packet_ring.laws.packets_stand_in_order.Goals as goal

pub returns : goal.returns
returns c = stand_in_order
