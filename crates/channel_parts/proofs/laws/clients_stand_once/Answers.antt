use Rattle.channel_parts.proofs.Facts.{known_clients_rise, opened_clients_rise, opened_have_bursts, known_clients_are_few}
use Rattle.channel_parts.proofs.laws.clients_stand_once.Goals as goal

pub returns-clause-known : goal.returns-clause-known
returns-clause-known c = known_clients_rise

pub returns-clause-opened : goal.returns-clause-opened
returns-clause-opened c = opened_clients_rise

pub returns-clause-bursts : goal.returns-clause-bursts
returns-clause-bursts c = opened_have_bursts

pub returns-clause-few : goal.returns-clause-few
returns-clause-few c = known_clients_are_few
