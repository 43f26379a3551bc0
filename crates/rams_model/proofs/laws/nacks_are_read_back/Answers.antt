use Rattle.rams_model.proofs.NackLaws.{numbers_packed}
use Rattle.rams_model.proofs.laws.nacks_are_read_back.Goals as goal

pub returns : goal.returns
returns c = numbers_packed
