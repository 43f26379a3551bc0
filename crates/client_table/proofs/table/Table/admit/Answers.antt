use Rattle.std.proofs.Common.{◌≡◌, List, Option, Some, is_some, refl, arith, ap, sym, ◌∙◌, subst}
use Rattle.std.specs.Prelude.{filter}
use Rattle.client_table.specs.declared.{entry.Entry.Entry, stored.Stored.Stored}
use Rattle.client_table.specs.{new_entry, entry_at, seen, has_burst, is_open_at, AreJoined, times_at, AreInTime}
use Rattle.slab.specs.Slab.{Slab, Updates}
use Rattle.client_table.proofs.Changed.{free_key, insert_kept, shown_elsewhere, none_shown, came}
use Rattle.client_table.proofs.InTime.{time_put, in_time_admitted}
use Rattle.client_table.proofs.Opened.{inserted_open}
use Rattle.client_table.proofs.Shown.{shown_count, shown_most, shown_admitted, unknown_key, not_full, one_more}
use Rattle.client_table.proofs.table.Table.admit.Goals as goal

pub returns-then-len-self-clause-full : goal.returns-then-len-self-clause-full
returns-then-len-self-clause-full c =
    let at = entry_at c.self.inside.tick c.self.inside.entries.slots in
    let count = shown_count c.self.inside.most at c.self.inside.index.entries _ c.self.view_is c.self.invariant.entries in
    let most = shown_most c.self.inside.most at c.self.inside.index.entries _ c.self.view_is c.self.invariant.entries in
    (λ same. omega (arith, count, most, c.self.invariant.few, c.len.ensures.len, c.if-len-self.true), λ all. refl)

pub returns-in_err-reserve-clause-full : goal.returns-in_err-reserve-clause-full
returns-in_err-reserve-clause-full c =
    let at = entry_at c.self.inside.tick c.self.inside.entries.slots in
    let count = shown_count c.self.inside.most at c.self.inside.index.entries _ c.self.view_is c.self.invariant.entries in
    let most = shown_most c.self.inside.most at c.self.inside.index.entries _ c.self.view_is c.self.invariant.entries in
    not_full _ _ _ c.from_residual.ensures.1 (omega (arith, count, most, c.len.ensures.len, c.if-len-self.false))

pub returns-in_err-insert-clause-full : goal.returns-in_err-insert-clause-full
returns-in_err-insert-clause-full c =
    let at = entry_at c.self.inside.tick c.self.inside.entries.slots in
    let count = shown_count c.self.inside.most at c.self.inside.index.entries _ c.self.view_is c.self.invariant.entries in
    let most = shown_most c.self.inside.most at c.self.inside.index.entries _ c.self.view_is c.self.invariant.entries in
    not_full _ _ _ c.from_residual-in_err-insert.ensures.1 (omega (arith, count, most, c.len.ensures.len, c.if-len-self.false))

pub invariant_of-self-2 : goal.invariant_of-self-2
invariant_of-self-2 c =
    let tick = c.self.inside.tick in
    let slots = c.reserve.new.self.slots in
    let later = c.insert_reserved.new.self.slots in
    let es = c.self.inside.index.entries in
    let key = c.vacant_key-key.result in
    let client = c.args.client in
    let at = entry_at tick slots in
    let now = entry_at tick later in
    let same : slots ≡ c.self.inside.entries.slots = ap (λ (s : Slab Stored). s.slots) c.reserve.ensures.rest_kept in
    let joins : AreJoined at es = subst (λ (all : List (Option Stored)). AreJoined (entry_at tick all) es) (sym same) c.self.invariant.entries in
    let put : c.insert_reserved.result ≡ key = c.insert_reserved.ensures.key ∙ sym c.vacant_key-key.ensures.value in
    let updates : Updates c.reserve.new.self c.insert_reserved.new.self key (Some c.new.result) = rw put at c.insert_reserved.ensures.updates in
    let elsewhere = shown_elsewhere tick key slots later updates.others in
    let here : now key ≡ Some (new_entry c.args.ssrc c.args.seq0) = came tick key later c.new.result _ updates.changed (c.new.ensures.entry ∙ c.new-entry.ensures) in
    let vacant = none_shown tick key slots c.vacant_key-key.ensures.vacant in
    let free = free_key at key vacant es joins in
    let shows = ap (λ (all : List (Option Stored)). seen c.self.inside.most (entry_at tick all) es) same ∙ c.self.view_is in
    let opened : c.self.inside.bursts.items ≡ filter (is_open_at at) es = subst (λ (all : List (Option Stored)). c.self.inside.bursts.items ≡ filter (is_open_at (entry_at tick all)) es) (sym same) c.self.invariant.opened in
    let times : AreInTime c.self.inside.due (times_at tick slots) es = subst (λ (all : List (Option Stored)). AreInTime c.self.inside.due (times_at tick all) es) (sym same) c.self.invariant.times in
    record {
      rising = c.insert.ensures.ordered;
      entries = rw c.in_ok-insert.ensures.entries (insert_kept at now key elsewhere client _ here es joins free);
      few = one_more (is_some c.in_ok-insert.field-0) _ _ _ c.in_ok-insert.ensures.len (omega (arith, c.len.ensures.len, c.if-len-self.false));
      small = c.self.invariant.small;
      opened = rw c.in_ok-insert.ensures.entries (opened ∙ inserted_open at now key elsewhere client es (ap has_burst here) free (unknown_key c.self.inside.most at es _ shows joins client c.requires.unknown));
      room = c.self.invariant.room;
      told = c.add.ensures c.self.inside.index c.insert.new.self c.in_ok-insert.ensures.updates c.self.invariant.told;
      times = in_time_admitted c.self.inside.due c.place-due.new.self client tick slots later c.place-due.ensures.moves key updates.others c.self.inside.index c.insert.new.self c.in_ok-insert.ensures.updates joins vacant
          (λ whole. time_put client tick _ _ c.place-due.new.self _ c.new.result updates.changed c.new.ensures.due (ap (λ (e : Entry). e.idle) c.new.ensures.entry) (c.place-due.ensures.there whole)) times;
      later = c.place-due.ensures.later c.self.invariant.later;
    }

pub returns-clause-ok : goal.returns-clause-ok
returns-clause-ok c =
    let tick = c.self.inside.tick in
    let slots = c.reserve.new.self.slots in
    let later = c.insert_reserved.new.self.slots in
    let es = c.self.inside.index.entries in
    let key = c.vacant_key-key.result in
    let at = entry_at tick slots in
    let same : slots ≡ c.self.inside.entries.slots = ap (λ (s : Slab Stored). s.slots) c.reserve.ensures.rest_kept in
    let joins : AreJoined at es = subst (λ (all : List (Option Stored)). AreJoined (entry_at tick all) es) (sym same) c.self.invariant.entries in
    let put : c.insert_reserved.result ≡ key = c.insert_reserved.ensures.key ∙ sym c.vacant_key-key.ensures.value in
    let updates : Updates c.reserve.new.self c.insert_reserved.new.self key (Some c.new.result) = rw put at c.insert_reserved.ensures.updates in
    let shows = ap (λ (all : List (Option Stored)). seen c.self.inside.most (entry_at tick all) es) same ∙ c.self.view_is in
    shown_admitted c.self.inside.most at es _ shows joins (entry_at tick later) key (shown_elsewhere tick key slots later updates.others) c.args.client (new_entry c.args.ssrc c.args.seq0) _
    (came tick key later c.new.result _ updates.changed (c.new.ensures.entry ∙ c.new-entry.ensures)) (none_shown tick key slots c.vacant_key-key.ensures.vacant) c.requires.unknown c.in_ok-insert.ensures.entries

pub returns-clause-full : goal.returns-clause-full
returns-clause-full c =
    let at = entry_at c.self.inside.tick c.self.inside.entries.slots in
    let count = shown_count c.self.inside.most at c.self.inside.index.entries _ c.self.view_is c.self.invariant.entries in
    let most = shown_most c.self.inside.most at c.self.inside.index.entries _ c.self.view_is c.self.invariant.entries in
    (λ same. cc, λ all. absurd (omega (arith, count, most, c.len.ensures.len, c.if-len-self.false)))
