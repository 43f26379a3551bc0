use Rattle.std.proofs.Common.{rules}
use Rattle.tick_draft.proofs.Kept.{all_small, all_begun}
use Rattle.tick_draft.proofs.entries.begin_entries.Goals as goal

pub change_bursts-requires : goal.change_bursts-requires
change_bursts-requires c = all_small _ (λ b small. search rules) c.args.table.now c.age.new.self c.requires c.age.ensures

pub returns : goal.returns
returns c = all_begun _ c.args.table.now c.age.new.self c.change_bursts.new.self (λ e d called. search rules) c.age.ensures c.change_bursts.ensures
