use Rattle.std.proofs.Common.{sym, ap}
use Rattle.std.specs.Option.{option_map}
use Rattle.std.specs.BTreeMap.{is_at}
use Rattle.std.specs.Ordering.{nat_cmp}
use Rattle.client_table.specs.{entry_at, shown}
use Rattle.client_table.proofs.Changed.{none_and_some, found_some}
use Rattle.client_table.proofs.table.place_anew.Goals as goal

pub returns-in_default-stored_in-clause-there : goal.returns-in_default-stored_in-clause-there
returns-in_default-stored_in-clause-there c =
    let at = entry_at c.args.tick c.args.entries.now.slots in
    absurd (none_and_some (at c.in-Some.key) (sym (ap (option_map (shown c.args.tick)) c.in_default-stored_in.ensures))
    (found_some at (is_at (nat_cmp c.args.client)) c.in-Some.key c.args.index.now.entries c.requires.joins (sym c.in-Some.ensures)))
