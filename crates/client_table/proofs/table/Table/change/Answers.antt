use Rattle.std.proofs.Common.{◌≡◌, IfSome, Some, length, refl, ap, sym, ◌∙◌, subst, arith}
use Rattle.std.specs.Option.{option_map, option_and_then}
use Rattle.std.specs.BTreeMap.{is_at}
use Rattle.std.specs.Ordering.{nat_cmp}
use Rattle.client_table.specs.declared.entry.Entry.{Entry}
use Rattle.client_table.specs.{shown, entry_at, entry_of, has_burst, is_open_at, Rise, marked}
use Rattle.client_table.proofs.Changed.{set_kept, none_and_some, found_some, shown_some, put_elsewhere, put_others, put_here}
use Rattle.client_table.proofs.InTime.{slot_written, time_of, time_put, in_time_put}
use Rattle.client_table.proofs.Opened.{rise_kept, length_kept, set_marked}
use Rattle.client_table.proofs.Shown.{shown_entry, shown_written, no_change, one_change}
use Rattle.client_table.proofs.table.Table.change.Given.{F-pre}
use Rattle.client_table.proofs.table.Table.change.Goals as goal

pub returns-in_default : goal.returns-in_default
returns-in_default g c =
    let at = entry_at c.self.inside.tick c.self.inside.entries.slots in
    let unknown = sym (shown_entry c.self.inside.most at c.self.inside.index.entries _ c.self.view_is c.self.invariant.entries c.args.client) ∙ ap (option_and_then at) (sym c.in_default.ensures) in
    no_change _ _ (entry_of c.args.self.now c.args.client) unknown refl

pub returns-in_default-stored_in : goal.returns-in_default-stored_in
returns-in_default-stored_in g c =
    let tick = c.self.inside.tick in
    let at = entry_at tick c.self.inside.entries.slots in
    absurd (none_and_some (at c.in-Some.key) (sym (ap (option_map (shown tick)) c.in_default-stored_in.ensures))
    (found_some at (is_at (nat_cmp c.args.client)) c.in-Some.key c.self.inside.index.entries c.self.invariant.entries (sym c.in-Some.ensures)))

pub change-changed-requires : goal.change-changed-requires
change-changed-requires g c =
    let tick = c.self.inside.tick in
    let at = entry_at tick c.self.inside.entries.slots in
    let here : Some c.entry-entry.result ≡ at c.in-Some.key = ap Some c.entry-entry.ensures ∙ ap (option_map (shown tick)) c.in-Some-stored_in.ensures in
    let known = sym (shown_entry c.self.inside.most at c.self.inside.index.entries _ c.self.view_is c.self.invariant.entries c.args.client) ∙ (ap (option_and_then at) (sym c.in-Some.ensures) ∙ sym here) in
    subst (λ o. IfSome o (F-pre g c.args.change)) known c.requires

pub settle-due-requires : goal.settle-due-requires
settle-due-requires g c whole =
    let tick = c.self.inside.tick in (
      (shown tick c.in-Some-stored_in.stored).idle,
      time_of c.args.client tick c.self.inside.due _ c.in-Some-stored_in.stored c.in-Some-stored_in.ensures (c.self.invariant.times whole c.args.client c.in-Some.key (sym c.in-Some.ensures)),
    )

pub put-requires : goal.put-requires
put-requires g c =
    let tick = c.self.inside.tick in
    let slots = c.self.inside.entries.slots in
    shown_some tick c.in-Some.key slots (found_some (entry_at tick slots) (is_at (nat_cmp c.args.client)) c.in-Some.key c.self.inside.index.entries c.self.invariant.entries (sym c.in-Some.ensures))

pub mark-requires-clause-rise : goal.mark-requires-clause-rise
mark-requires-clause-rise g c =
    let at = entry_at c.self.inside.tick c.self.inside.entries.slots in
    subst Rise (sym c.self.invariant.opened) (rise_kept (is_open_at at) c.self.inside.index.entries c.self.invariant.rising)

pub mark-requires-clause-room : goal.mark-requires-clause-room
mark-requires-clause-room g c =
    let at = entry_at c.self.inside.tick c.self.inside.entries.slots in
    omega (arith, ap length c.self.invariant.opened, length_kept (is_open_at at) c.self.inside.index.entries, c.self.invariant.few, c.self.invariant.room)

pub invariant_of-self : goal.invariant_of-self
invariant_of-self g c =
    let tick = c.self.inside.tick in
    let slots = c.self.inside.entries.slots in
    let es = c.self.inside.index.entries in
    let key = c.in-Some.key in
    let client = c.args.client in
    let test = is_at (nat_cmp client) in
    let at = entry_at tick slots in
    let now = entry_at tick c.put.new.entries.slots in
    let joins = c.self.invariant.entries in
    let found = sym c.in-Some.ensures in
    let elsewhere = put_elsewhere tick slots c.put.new.entries.slots key c.new.result c.put.ensures in
    let here = put_here tick slots c.put.new.entries.slots key c.new.result c.put.ensures c.change-changed.result (found_some at test key es joins found) c.new.ensures.entry in
    let wrote = slot_written slots c.put.new.entries.slots key c.new.result c.put.ensures (shown_some tick key slots (found_some at test key es joins found)) in
    let was : Some c.entry-entry.result ≡ at key = ap Some c.entry-entry.ensures ∙ ap (option_map (shown tick)) c.in-Some-stored_in.ensures in
    record {
      rising = c.self.invariant.rising;
      entries = set_kept at now key elsewhere test c.change-changed.result here es joins found;
      few = c.self.invariant.few;
      small = c.self.invariant.small;
      opened = c.mark.ensures.items ∙ (ap (marked c.is_some-was_open.result c.is_some-is_open.result client key) c.self.invariant.opened
          ∙ set_marked at now key elsewhere client _ _ es (c.is_some-was_open.ensures ∙ ap has_burst was) (c.is_some-is_open.ensures ∙ sym (ap has_burst here)) c.self.invariant.rising joins found);
      room = omega (arith, c.self.invariant.room, c.mark.ensures.room);
      told = c.self.invariant.told;
      times = in_time_put c.self.inside.due c.settle-due.new.self client tick slots c.put.new.entries.slots c.settle-due.ensures.moves key (put_others tick slots c.put.new.entries.slots key c.new.result c.put.ensures) es joins found
          (λ whole. time_put client tick _ _ c.settle-due.new.self _ c.new.result wrote c.new.ensures.due (ap (λ (e : Entry). e.idle) c.new.ensures.entry) (c.settle-due.ensures.there whole)) c.self.invariant.times;
      later = c.settle-due.ensures.later c.self.invariant.later;
    }

pub returns : goal.returns
returns g c =
    let tick = c.self.inside.tick in
    let slots = c.self.inside.entries.slots in
    let es = c.self.inside.index.entries in
    let key = c.in-Some.key in
    let at = entry_at tick slots in
    let some = found_some at (is_at (nat_cmp c.args.client)) key es c.self.invariant.entries (sym c.in-Some.ensures) in
    let here : Some c.entry-entry.result ≡ at key = ap Some c.entry-entry.ensures ∙ ap (option_map (shown tick)) c.in-Some-stored_in.ensures in
    let known = sym (shown_entry c.self.inside.most at es _ c.self.view_is c.self.invariant.entries c.args.client) ∙ (ap (option_and_then at) (sym c.in-Some.ensures) ∙ sym here) in
    let written = shown_written c.self.inside.most at es _ c.self.view_is c.self.invariant.entries (entry_at tick c.put.new.entries.slots) key
    (put_elsewhere tick slots c.put.new.entries.slots key c.new.result c.put.ensures) c.args.client c.change-changed.result
    (put_here tick slots c.put.new.entries.slots key c.new.result c.put.ensures c.change-changed.result some c.new.ensures.entry) c.in-Some.ensures in
    one_change _ _ (entry_of c.args.self.now c.args.client) c.entry-entry.result known (c.change-changed.result, c.change-changed.ensures, written)
