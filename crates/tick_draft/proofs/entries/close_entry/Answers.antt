use Rattle.std.proofs.Common.{rules}
use Rattle.tick_draft.specs.{entry_closed}
use Rattle.client_table.proofs.Shown.{changed_so}
use Rattle.tick_draft.proofs.entries.close_entry.Goals as goal

pub returns : goal.returns
returns c = changed_so entry_closed _ c.args.table.now c.change.new.self c.args.client (λ e d called. search rules) c.change.ensures
