use Rattle.channel_parts.proofs.Facts.{repairs_are_of_known_clients, repairs_are_within_limits}
use Rattle.channel_parts.proofs.laws.repairs_are_of_known_clients.Goals as goal

pub returns-clause-known : goal.returns-clause-known
returns-clause-known c = repairs_are_of_known_clients

pub returns-clause-limits : goal.returns-clause-limits
returns-clause-limits c = repairs_are_within_limits
