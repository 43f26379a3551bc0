use Rattle.std.proofs.Common.{[]}
use Rattle.tick_draft.proofs.Stepping.{none_yet, as_made}
use Rattle.tick_draft.proofs.draft.Draft.new.Goals as goal

pub invariant_of-result : goal.invariant_of-result
invariant_of-result c = as_made [] c.new-3.result [] c.new.result.items [] c.new-2.result.items c.new-3.ensures c.new.ensures.items c.new-2.ensures.items none_yet
