use Rattle.rams_model.proofs.Catching.{catching_up_ends}
use Rattle.rams_model.proofs.laws.catching_up_ends.Goals as goal

pub returns : goal.returns
returns c gain steps p ps caught le = catching_up_ends gain steps p ps caught le
