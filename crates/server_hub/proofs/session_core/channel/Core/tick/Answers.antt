use Rattle.server_hub.proofs.session_core.JoinTimes.{join_times_are_kept}
use Rattle.server_hub.proofs.session_core.channel.Core.tick.Goals as goal

pub returns-clause-join_times : goal.returns-clause-join_times
returns-clause-join_times c = λ events st. join_times_are_kept _ events
