use Rattle.rams_model.proofs.PlainPackets.{below_at}
use Rattle.rams_model.proofs.RtpPackets.{spelled_so}
use Rattle.rams_model.proofs.laws.what_is_read_is_spelled_so.Goals as goal

pub returns : goal.returns
returns c bytes p h read = spelled_so bytes p (below_at bytes h) read
