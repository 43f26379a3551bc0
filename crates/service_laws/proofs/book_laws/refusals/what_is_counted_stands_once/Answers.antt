use Rattle.service_laws.proofs.book_laws.Moments.{legal_moment}
use Rattle.service_laws.proofs.book_laws.Counting.{counted}
use Rattle.service_laws.proofs.book_laws.refusals.what_is_counted_stands_once.Goals as goal

pub returns : goal.returns
returns c s history m = counted s history (legal_moment s history m)
