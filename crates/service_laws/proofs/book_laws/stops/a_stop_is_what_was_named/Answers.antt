use Rattle.service_laws.proofs.book_laws.Moments.{legal_moment}
use Rattle.service_laws.proofs.book_laws.Stopping.{stops_as_named}
use Rattle.service_laws.proofs.book_laws.stops.a_stop_is_what_was_named.Goals as goal

pub returns : goal.returns
returns c s client stop packet before m = stops_as_named s client stop before (legal_moment s _ m).0
