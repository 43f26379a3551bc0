use Rattle.std.proofs.Common.{Some, arith, ap, sym, ◌∙◌, subst}
use Rattle.std.specs.Option.{option_map, option_and_then}
use Rattle.std.specs.BTreeMap.{is_at}
use Rattle.std.specs.Ordering.{nat_cmp}
use Rattle.client_table.specs.{shown, entry_at, is_open_at, Rise, closed_at}
use Rattle.client_table.proofs.Changed.{remove_kept, none_and_some, found_some, shown_elsewhere}
use Rattle.client_table.proofs.InTime.{in_time_removed}
use Rattle.client_table.proofs.Opened.{rise_kept, removed_open}
use Rattle.client_table.proofs.Shown.{shown_entry, shown_absent, shown_removed}
use Rattle.client_table.proofs.table.Table.remove.Goals as goal

pub returns-in_err-key-clause-value : goal.returns-in_err-key-clause-value
returns-in_err-key-clause-value c =
    let at = entry_at c.self.inside.tick c.self.inside.entries.slots in
    let entry = shown_entry c.self.inside.most at c.self.inside.index.entries _ c.self.view_is c.self.invariant.entries c.args.client in
    c.from_residual.ensures ∙ (ap (option_and_then at) c.in_err-key.ensures.value ∙ entry)

pub returns-in_err-key-clause-table : goal.returns-in_err-key-clause-table
returns-in_err-key-clause-table c =
    let at = entry_at c.self.inside.tick c.self.inside.entries.slots in
    shown_absent c.self.inside.most at c.self.inside.index.entries _ c.self.view_is c.self.invariant.entries c.args.client _ c.in_err-key.ensures.value c.in_err-key.ensures.unchanged

pub close_client-requires : goal.close_client-requires
close_client-requires c =
    let at = entry_at c.self.inside.tick c.self.inside.entries.slots in
    record { rise = subst Rise (sym c.self.invariant.opened) (rise_kept (is_open_at at) c.self.inside.index.entries c.self.invariant.rising) }

pub invariant_of-self-2 : goal.invariant_of-self-2
invariant_of-self-2 c =
    let tick = c.self.inside.tick in
    let slots = c.self.inside.entries.slots in
    let es = c.self.inside.index.entries in
    let key = c.in_ok-key.key in
    let test = is_at (nat_cmp c.args.client) in
    let at = entry_at tick slots in
    let now = entry_at tick c.take_out.new.entries.slots in
    let joins = c.self.invariant.entries in
    let found = sym c.in_ok-key.ensures.value in
    let elsewhere = shown_elsewhere tick key slots c.take_out.new.entries.slots c.take_out.ensures.updates.others in
    record {
      rising = c.remove.ensures.ordered;
      entries = rw c.remove.ensures.entries (remove_kept at now key elsewhere test es joins found);
      few = omega (arith, c.in_ok-key.ensures.len, c.self.invariant.few);
      small = c.self.invariant.small;
      opened = rw c.remove.ensures.entries (c.close_client.ensures.items ∙ (ap (closed_at c.args.client) c.self.invariant.opened ∙ removed_open at now key elsewhere c.args.client es c.self.invariant.rising joins found));
      room = omega (arith, c.self.invariant.room, c.close_client.ensures.room);
      told = c.remove-2.ensures c.self.inside.index c.remove.new.self c.remove.ensures.updates c.self.invariant.told;
      times = in_time_removed c.self.inside.due c.remove-3.new.self c.args.client tick slots c.take_out.new.entries.slots c.remove-3.ensures.moves key c.take_out.ensures.updates.others c.self.inside.index c.remove.new.self c.remove.ensures.updates joins found
          c.self.invariant.times;
      later = c.remove-3.ensures.later c.self.invariant.later;
    }

-- its slot has an entry
pub invariant_of-self-in_err-stored : goal.invariant_of-self-in_err-stored
invariant_of-self-in_err-stored c =
    let at = entry_at c.self.inside.tick c.self.inside.entries.slots in
    absurd (none_and_some (at c.in_ok-key.key) (ap (option_map (shown c.self.inside.tick)) (sym c.in_err-stored.ensures.value))
    (found_some at (is_at (nat_cmp c.args.client)) c.in_ok-key.key c.self.inside.index.entries c.self.invariant.entries (sym c.in_ok-key.ensures.value)))

pub returns-in_err-stored-clause-value : goal.returns-in_err-stored-clause-value
returns-in_err-stored-clause-value c =
    let at = entry_at c.self.inside.tick c.self.inside.entries.slots in
    absurd (none_and_some (at c.in_ok-key.key) (ap (option_map (shown c.self.inside.tick)) (sym c.in_err-stored.ensures.value))
    (found_some at (is_at (nat_cmp c.args.client)) c.in_ok-key.key c.self.inside.index.entries c.self.invariant.entries (sym c.in_ok-key.ensures.value)))

pub returns-in_err-stored-clause-table : goal.returns-in_err-stored-clause-table
returns-in_err-stored-clause-table c =
    let at = entry_at c.self.inside.tick c.self.inside.entries.slots in
    absurd (none_and_some (at c.in_ok-key.key) (ap (option_map (shown c.self.inside.tick)) (sym c.in_err-stored.ensures.value))
    (found_some at (is_at (nat_cmp c.args.client)) c.in_ok-key.key c.self.inside.index.entries c.self.invariant.entries (sym c.in_ok-key.ensures.value)))

pub returns-clause-value : goal.returns-clause-value
returns-clause-value c =
    let at = entry_at c.self.inside.tick c.self.inside.entries.slots in
    let tick = c.self.inside.tick in
    let entry = shown_entry c.self.inside.most at c.self.inside.index.entries _ c.self.view_is c.self.invariant.entries c.args.client in
    ap Some c.entry.ensures ∙ (ap (option_map (shown tick)) c.in_ok-stored.ensures.value ∙ (ap (option_and_then at) c.in_ok-key.ensures.value ∙ entry))

pub returns-clause-table : goal.returns-clause-table
returns-clause-table c =
    let tick = c.self.inside.tick in
    let slots = c.self.inside.entries.slots in
    let now = entry_at tick c.take_out.new.entries.slots in
    shown_removed c.self.inside.most (entry_at tick slots) c.self.inside.index.entries _ c.self.view_is c.self.invariant.entries now c.in_ok-key.key
    (shown_elsewhere tick c.in_ok-key.key slots c.take_out.new.entries.slots c.take_out.ensures.updates.others) c.args.client _ c.in_ok-key.ensures.value c.remove.ensures.entries
