use Rattle.rams_model.proofs.PacketLaws.{packet_written_back, feedback_written_back}
use Rattle.rams_model.proofs.laws.packets_are_read_back.Goals as goal

pub returns : goal.returns
returns c = record { packet = packet_written_back; feedback = feedback_written_back }
