use Rattle.channel_parts.proofs.Facts.{only_known_clients_have_bursts, opened_are_the_known_with_bursts}
use Rattle.channel_parts.proofs.laws.only_known_clients_have_bursts.Goals as goal

pub returns-clause-only : goal.returns-clause-only
returns-clause-only c = only_known_clients_have_bursts

pub returns-clause-opened : goal.returns-clause-opened
returns-clause-opened c = opened_are_the_known_with_bursts
