use Rattle.service_laws.proofs.book_laws.CameBefore.{answers_are_fine, ordered_once}
use Rattle.service_laws.proofs.book_laws.sendings.each_datagram_is_the_retransmission_of_a_source_packet.Goals as goal

pub returns-clause-came : goal.returns-clause-came
returns-clause-came c s e book l = answers_are_fine s e book l

pub returns-clause-ordered : goal.returns-clause-ordered
returns-clause-ordered c s e book l = ordered_once s e book l
