use Rattle.service_laws.proofs.book_laws.KnownClients.{open_known, stayed_known}
use Rattle.service_laws.proofs.book_laws.numbers.an_open_bursts_client_is_known.Goals as goal

pub returns-clause-known : goal.returns-clause-known
returns-clause-known c = open_known

pub returns-clause-stays : goal.returns-clause-stays
returns-clause-stays c = stayed_known
