use Rattle.rams_model.specs.Receiver.{reception, shown, source_first}
use Rattle.service_laws.proofs.receiver_laws.Prefixes.{prefix}
use Rattle.service_laws.proofs.receiver_laws.Standing.{stands}
use Rattle.service_laws.proofs.receiver_laws.presenting.what_is_presented_is_a_prefix.Goals as goal

pub returns : goal.returns
returns c source turns rises fair = prefix source (source_first turns) (reception turns).play (shown turns) rises (stands source turns fair)
