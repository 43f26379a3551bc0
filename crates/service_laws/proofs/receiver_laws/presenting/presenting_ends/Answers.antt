use Rattle.std.proofs.Common.{length, inl, arith}
use Rattle.service_laws.proofs.receiver_laws.Ending.{ends}
use Rattle.service_laws.proofs.receiver_laws.presenting.presenting_ends.Goals as goal

pub returns : goal.returns
returns c r p e = ends (length p.waits) r p e (inl (omega arith))
