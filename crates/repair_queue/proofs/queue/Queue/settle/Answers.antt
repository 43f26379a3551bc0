use Rattle.std.proofs.Common.{◌∙◌}
use Rattle.repair_queue.proofs.queue.Queue.settle.Goals as goal

pub returns : goal.returns
returns c = c.cut.ensures ∙ (c.self.view_is ∙ c.drop_done.ensures)
