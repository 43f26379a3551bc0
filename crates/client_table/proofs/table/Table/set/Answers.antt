use Rattle.std.proofs.Common.{rules, refl}
use Rattle.client_table.specs.{entry_of}
use Rattle.client_table.proofs.Shown.{set_by}
use Rattle.client_table.proofs.table.Table.set.Goals as goal

pub returns : goal.returns
returns c = set_by _ (entry_of c.args.self.now c.args.client) c.args.self.now c.change.new.self c.args.client c.args.entry (λ e d called. search rules) refl c.change.ensures
