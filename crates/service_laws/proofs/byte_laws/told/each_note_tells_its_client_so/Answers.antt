use Rattle.std.proofs.Common.{◌∷◌}
use Rattle.rams_model.specs.Service.{noted}
use Rattle.service_laws.proofs.book_laws.Moments.{legal_moment}
use Rattle.service_laws.proofs.byte_laws.Orders.{tells_so, was_ordered}
use Rattle.service_laws.proofs.byte_laws.told.each_note_tells_its_client_so.Goals as goal

pub returns-clause-told : goal.returns-clause-told
returns-clause-told c s note packet before m = tells_so s note packet before (legal_moment s (noted note packet ∷ before) m).0

pub returns-clause-each : goal.returns-clause-each
returns-clause-each c = was_ordered
