use Rattle.service_laws.proofs.book_laws.FirstOfBursts.{first_of_burst}
use Rattle.service_laws.proofs.book_laws.numbers.the_first_number_is_the_bursts.Goals as goal

pub returns : goal.returns
returns c = first_of_burst
