use Rattle.std.proofs.Common.{refl}
use Rattle.rams_model.specs.Packets.{least_from}
use Rattle.rams_model.proofs.Stopping.{least_named}
use Rattle.rams_model.proofs.laws.stop_is_least.Goals as goal

pub returns : goal.returns
returns c first next = (refl, λ named. (least_from first named, least_named first named, refl))
