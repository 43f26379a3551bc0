use Rattle.service_laws.proofs.byte_laws.Answered.{answered_whole}
use Rattle.service_laws.proofs.byte_laws.messages.each_datagram_is_answered_whole.Goals as goal

pub returns : goal.returns
returns c = answered_whole
