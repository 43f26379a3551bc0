use Rattle.std.proofs.Common.{subst}
use Rattle.rams_model.proofs.Legal.{IsLegal, legal_part}
use Rattle.service_laws.proofs.book_laws.Moments.{legal_moment}
use Rattle.service_laws.proofs.book_laws.Beginning.{begins_as_asked}
use Rattle.service_laws.proofs.book_laws.sendings.a_burst_begins_at_an_eligible_access_point.Goals as goal

pub returns : goal.returns
returns c s history m client a =
    let l = legal_part s a.since _ (subst (IsLegal s) a.splits (legal_moment s history m)) in
    begins_as_asked s client a.first a.rate a.join a.before l.0
