use Rattle.rams_model.proofs.Growing.{source_rises, source_grows}
use Rattle.rams_model.proofs.laws.source_grows_in_order.Goals as goal

pub returns-clause-once : goal.returns-clause-once
returns-clause-once c = source_rises

pub returns-clause-grows : goal.returns-clause-grows
returns-clause-grows c = source_grows
