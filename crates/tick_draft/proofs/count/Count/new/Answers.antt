use Rattle.std.proofs.Common.{refl}
use Rattle.tick_draft.proofs.Tallied.{counts_none}
use Rattle.tick_draft.proofs.count.Count.new.Goals as goal

pub returns : goal.returns
returns c = counts_none (record { steps = c.new.result; left = c.args.left }) c.args.left c.new.ensures refl
