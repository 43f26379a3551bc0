use Rattle.rams_model.proofs.PlainPackets.{below_at}
use Rattle.rams_model.proofs.RamsLaws.{message_spelled, message_read}
use Rattle.rams_model.proofs.laws.rams_messages_are_read_as_spelled.Goals as goal

pub returns : goal.returns
returns c = record {
  spelled = λ sfmt lengths fci ts small h. message_spelled sfmt lengths fci ts (below_at fci small) h;
  read = message_read;
}
