use Rattle.std.proofs.Common.{subst}
use Rattle.rams_model.specs.declared.Cause.TheVariants.{Stopped}
use Rattle.service_laws.specs.book_laws.{first_sendings}
use Rattle.rams_model.proofs.Legal.{IsLegal}
use Rattle.service_laws.proofs.book_laws.Moments.{legal_moment}
use Rattle.service_laws.proofs.book_laws.SinceAccept.{stop_since, end_since, fair_since}
use Rattle.service_laws.proofs.book_laws.Stopping.{stop_is_one, end_is, respected, whole_sent}
use Rattle.service_laws.proofs.book_laws.stops.the_stop_is_respected.Goals as goal

pub returns-clause-below : goal.returns-clause-below
returns-clause-below c s history m client a stop w =
    let l = subst (IsLegal s) a.splits (legal_moment s history m) in
    respected a.first stop (first_sendings client a.since) (stop_since client a.since) (end_since client a.since)
    (fair_since s client a.first a.rate a.join a.packet a.since a.before a.last l)
    (stop_is_one s client a.first a.rate a.join stop a.packet a.since a.before a.last l w)

pub returns-clause-whole : goal.returns-clause-whole
returns-clause-whole c s history m client a w =
    let l = subst (IsLegal s) a.splits (legal_moment s history m) in
    whole_sent client a.first a.since (fair_since s client a.first a.rate a.join a.packet a.since a.before a.last l)
    (end_is s client a.first a.rate a.join a.packet a.since a.before a.last l Stopped w)
