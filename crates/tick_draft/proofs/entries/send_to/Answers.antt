use Rattle.std.proofs.Common.{rules}
use Rattle.tick_draft.specs.{entry_after}
use Rattle.client_table.proofs.Shown.{changed_so}
use Rattle.tick_draft.proofs.entries.send_to.Goals as goal

pub returns : goal.returns
returns c = changed_so (entry_after c.args.sent.now) _ c.args.table.now c.change.new.self c.args.sent.now.client (λ e d called. search rules) c.change.ensures
