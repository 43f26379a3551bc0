-- What holds of the whole histories of events holds at each moment.
use Rattle.std.proofs.Common.{subst}
use Rattle.rams_model.specs.Service.{Settings, History}
use Rattle.rams_model.proofs.Legal.{IsLegal, legal_part}
use Rattle.rams_model.proofs.Legality.{legal_history}
use Rattle.service_laws.specs.book_laws.{IsMoment}

pub legal_moment : (s : Settings) (history : History) → IsMoment s history → IsLegal s history
legal_moment s history m = legal_part s m.later history (subst (IsLegal s) m.splits (legal_history s m.events))
