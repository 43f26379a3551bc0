use Rattle.rams_model.proofs.PlainPackets.{spelled_again, stripped_again, below_at}
use Rattle.rams_model.proofs.laws.plain_packets_are_spelled_again.Goals as goal

pub returns : goal.returns
returns c bytes h p = (spelled_again bytes (below_at bytes h) p, stripped_again bytes (below_at bytes h) p)
