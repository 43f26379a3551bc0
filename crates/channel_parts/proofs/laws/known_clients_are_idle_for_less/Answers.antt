use Rattle.channel_parts.proofs.Facts.{known_clients_are_idle_for_less}
use Rattle.channel_parts.proofs.laws.known_clients_are_idle_for_less.Goals as goal

pub returns : goal.returns
returns c = known_clients_are_idle_for_less
