use Rattle.std.proofs.Common.{◌∷◌}
use Rattle.rams_model.specs.declared.Note.TheVariants.{Forgot}
use Rattle.rams_model.specs.Service.{noted}
use Rattle.service_laws.proofs.book_laws.Moments.{legal_moment}
use Rattle.service_laws.proofs.tick_laws.Forgetting.{was_idle, in_time}
use Rattle.service_laws.proofs.tick_laws.forgets.a_client_is_forgotten_in_time.Goals as goal

pub returns-clause-sooner : goal.returns-clause-sooner
returns-clause-sooner c s k packet before some m = was_idle s k before some (legal_moment s (noted (Forgot k) packet ∷ before) m).0

pub returns-clause-later : goal.returns-clause-later
returns-clause-later c = in_time
