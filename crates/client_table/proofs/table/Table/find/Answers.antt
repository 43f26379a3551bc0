use Rattle.std.proofs.Common.{ap, ◌∙◌}
use Rattle.std.specs.Option.{option_and_then}
use Rattle.client_table.specs.{entry_at}
use Rattle.client_table.proofs.Shown.{shown_entry}
use Rattle.client_table.proofs.table.Table.find.Goals as goal

pub returns-in_err-key : goal.returns-in_err-key
returns-in_err-key c =
    let at = entry_at c.self.inside.tick c.self.inside.entries.slots in
    let entry = shown_entry c.self.inside.most at c.self.inside.index.entries _ c.self.view_is c.self.invariant.entries c.args.client in
    c.from_residual.ensures ∙ (ap (option_and_then at) c.in_err-key.ensures ∙ entry)

pub returns : goal.returns
returns c =
    let at = entry_at c.self.inside.tick c.self.inside.entries.slots in
    let entry = shown_entry c.self.inside.most at c.self.inside.index.entries _ c.self.view_is c.self.invariant.entries c.args.client in
    c.entry_in.ensures ∙ (ap (option_and_then at) c.in_ok-key.ensures ∙ entry)
