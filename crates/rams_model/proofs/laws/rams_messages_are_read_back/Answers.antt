use Rattle.rams_model.proofs.RamsLaws.{request_written_back, info_written_back, stop_written_back}
use Rattle.rams_model.proofs.laws.rams_messages_are_read_back.Goals as goal

pub returns : goal.returns
returns c = record { request = request_written_back; info = info_written_back; stop = stop_written_back }
