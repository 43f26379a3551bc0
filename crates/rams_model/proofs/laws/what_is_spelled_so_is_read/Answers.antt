use Rattle.rams_model.proofs.RtpPackets.{read_so}
use Rattle.rams_model.proofs.laws.what_is_spelled_so_is_read.Goals as goal

pub returns : goal.returns
returns c p is = read_so p is
