use Rattle.service_laws.proofs.byte_laws.Packets.{packets_came, held_came}
use Rattle.service_laws.proofs.byte_laws.held.each_packet_came.Goals as goal

pub returns-clause-source : goal.returns-clause-source
returns-clause-source c = packets_came

pub returns-clause-held : goal.returns-clause-held
returns-clause-held c = held_came
