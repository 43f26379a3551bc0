use Rattle.std.proofs.Common.{◌∷◌}
use Rattle.rams_model.specs.declared.Note.TheVariants.{Gone}
use Rattle.rams_model.specs.Service.{noted}
use Rattle.service_laws.proofs.book_laws.Moments.{legal_moment}
use Rattle.service_laws.proofs.tick_laws.Repairs.{waited, gone_is_not_held}
use Rattle.service_laws.proofs.tick_laws.sends.each_waiting_repair_did_not_fit.Goals as goal

pub returns-clause-waits : goal.returns-clause-waits
returns-clause-waits c = waited

pub returns-clause-gone : goal.returns-clause-gone
returns-clause-gone c s client n packet before m = gone_is_not_held s client n before (legal_moment s (noted (Gone client n) packet ∷ before) m).0
