use Rattle.rams_model.proofs.PlainPackets.{below_at}
use Rattle.rams_model.proofs.PacketLaws.{datagram_spelled, datagram_read}
use Rattle.rams_model.proofs.laws.datagrams_are_read_as_spelled.Goals as goal

pub returns : goal.returns
returns c = record {
  spelled = λ datagram packets small h. datagram_spelled datagram packets (below_at datagram small) h;
  read = datagram_read;
}
