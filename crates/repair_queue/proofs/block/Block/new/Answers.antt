use Rattle.rams_model.proofs.ListFacts.{none_marked}
use Rattle.repair_queue.proofs.block.Block.new.Goals as goal

pub returns : goal.returns
returns c = λ other. none_marked 64 other
