use Rattle.std.proofs.Common.{rules}
use Rattle.client_table.specs.{awake}
use Rattle.client_table.proofs.Shown.{changed_so}
use Rattle.client_table.proofs.table.Table.wake.Goals as goal

pub returns : goal.returns
returns c = changed_so awake _ c.args.self.now c.change.new.self c.args.client (λ e d called. search rules) c.change.ensures
