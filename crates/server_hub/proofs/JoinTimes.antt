-- After each tick the channels keep their join times.
use Rattle.std.proofs.Common.{List, [], ◌∷◌}
use Rattle.server_hub.proofs.session_core.JoinTimes.{join_times_are_kept}
use Rattle.server_hub.specs.{after_tick, AllKeepJoinTimes}
use Rattle.server_hub.specs.Served.{Served}

pub all_keep : (channels : List Served) → AllKeepJoinTimes (after_tick channels)
all_keep [] = tt
all_keep (c ∷ channels) = (join_times_are_kept c.settings c.events, all_keep channels)
