use Rattle.channel_parts.proofs.Staying.{live_packets_change_the_cache, other_events_leave_the_cache}
use Rattle.channel_parts.proofs.laws.parts_go_on.Goals as goal

pub returns-clause-live : goal.returns-clause-live
returns-clause-live c = live_packets_change_the_cache

pub returns-clause-others : goal.returns-clause-others
returns-clause-others c = other_events_leave_the_cache
