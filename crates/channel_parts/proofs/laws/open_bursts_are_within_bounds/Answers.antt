use Rattle.channel_parts.proofs.Facts.{open_bursts_are_within_bounds, open_bursts_have_a_tick_left}
use Rattle.channel_parts.proofs.laws.open_bursts_are_within_bounds.Goals as goal

pub returns-clause-bounds : goal.returns-clause-bounds
returns-clause-bounds c = open_bursts_are_within_bounds

pub returns-clause-ticks : goal.returns-clause-ticks
returns-clause-ticks c = open_bursts_have_a_tick_left
