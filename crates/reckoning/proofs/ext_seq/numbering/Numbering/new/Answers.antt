use Rattle.std.proofs.Common.{refl}
use Rattle.rams_model.specs.Packets.{stream_of}
use Rattle.reckoning.proofs.ext_seq.numbering.Numbering.new.Goals as goal

pub returns-clause-stands : goal.returns-clause-stands
unfolding stream_of
returns-clause-stands c = λ window. record { greatest = refl; kept = refl; within = tt }
