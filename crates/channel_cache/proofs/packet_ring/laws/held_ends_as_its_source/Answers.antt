use Rattle.channel_cache.proofs.packet_ring.Ends.{end_grows, ends_alike, next_is_above}
use Rattle.channel_cache.proofs.packet_ring.laws.held_ends_as_its_source.Goals as goal

pub returns-clause-grows : goal.returns-clause-grows
returns-clause-grows c = end_grows

pub returns-clause-ends : goal.returns-clause-ends
returns-clause-ends c = ends_alike

pub returns-clause-above : goal.returns-clause-above
returns-clause-above c = next_is_above
