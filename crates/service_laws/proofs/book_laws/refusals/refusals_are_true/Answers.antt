use Rattle.service_laws.proofs.book_laws.Moments.{legal_moment}
use Rattle.service_laws.proofs.book_laws.RequestAnswers.{refused_truly}
use Rattle.service_laws.proofs.book_laws.refusals.refusals_are_true.Goals as goal

pub returns : goal.returns
returns c s k code packet before m = refused_truly s k code before (legal_moment s _ m).0
