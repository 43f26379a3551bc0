use Rattle.std.proofs.Common.{◌≡◌, ℕ, ◌+◌, List, [], ◌∷◌, ◌++◌, sym, ap, ◌∙◌, subst, append_assoc}
use Rattle.std.specs.Vec.Iter.{into_iter_items}
use Rattle.std.proofs.lemmas.List.Elements.{All-same, All-head, All-tail}
use Rattle.atomic_table.specs.Table.{Joins}
use Rattle.channel_book.specs.declared.entry.Entry.{Entry}
use Rattle.channel_book.specs.channel_lock.{Known}
use Rattle.channel_book.specs.channel_lock.Turns.{blank, gathering, first_view, Turns}
use Rattle.channel_book.specs.channel_lock.Steps.{Mine, with_pass}
use Rattle.channel_book.specs.channel_lock.Passes.{waiting, pasts_of}
use Rattle.channel_book.proofs.channel_lock.Gathering.{sits, gives_back}
use Rattle.channel_book.proofs.channel_lock.passes.gather.Goals as goal

pub load_new_seat-seat-requires : goal.load_new_seat-seat-requires
load_new_seat-seat-requires c =
    let table = c.args.shared.now in (c.requires.table, sits table.key.config table.key.passes table.table_id.slots (first_view table.key.config table.key.passes))

pub join_seat-requires : goal.join_seat-requires
join_seat-requires c =
    let table = c.args.shared.now in
    let i = c.loop-pass.invariant in
    let steps = c.in-Some.ensures.steps in
    let seat = c.loop-pass.seat in
    let pass = c.pass.inside.seat in
    let at = c.pass.invariant.seat_is in
    let past = i.gathered.0 in
    let left = i.gathered.1 in
    let P : Known → Type 0 = λ p. p.lock ≡ table.table_id in
    let mine : c.in-Some.pass.lock ≡ table.table_id =
    All-head P c.in-Some.pass (into_iter_items c.next.new.self) (All-same P (c.in-Some.pass ∷ into_iter_items c.next.new.self) (into_iter_items c.loop-pass.pass-iterator) (sym steps.0) i.made) in (
      i.table,
      ap (λ (k : Known). k.lock) c.pass.view_is ∙ mine,
      ap (λ (m : Mine). m.1) at,
      c.requires.table,
      subst (λ (m : Mine). Joins (Turns table.key.config table.key.passes) seat.id m.0 pass.id pass.me.0 (with_pass m.0 pass.me.0) blank) (sym i.gathered.3)
          (subst (λ (m : Mine). Joins (Turns table.key.config table.key.passes) seat.id (gathering past left) pass.id m.0 (with_pass (gathering past left) m.0) blank) (sym at)
          (gives_back table.key.config table.key.passes seat.id pass.id past left (waiting c.pass.inside.config c.pass.inside.list pass.me.0.log pass.me.0.left 0 0).config c.pass.inside.list pass.me.0.log pass.me.0.left)),
    )

pub loop-pass-preserved : goal.loop-pass-preserved
loop-pass-preserved c =
    let table = c.args.shared.now in
    let i = c.loop-pass.invariant in
    let steps = c.in-Some.ensures.steps in
    let later = into_iter_items c.next.new.self in
    let me = c.pass.inside.seat.me in
    let past = i.gathered.0 in
    let left = i.gathered.1 in
    let P : Known → Type 0 = λ p. p.lock ≡ table.table_id in
    let back : ℕ × List Entry = (c.in-Some.pass.list, c.in-Some.pass.seen) in
    let same : (c.pass.inside.list, me.0.log) ≡ back = ap (λ (k : Known). (k.list, k.seen)) c.pass.view_is in record {
      can_next = tt;
      is_finite = tt;
      table = c.join_seat.ensures.0 ∙ i.table;
      made = All-tail P c.in-Some.pass later (All-same P (c.in-Some.pass ∷ later) (into_iter_items c.loop-pass.pass-iterator) (sym steps.0) i.made);
      gathered = (
        past ++ back ∷ [],
        left + me.0.left,
        append_assoc past (back ∷ []) (pasts_of later) ∙ (ap (λ (l : List Known). past ++ pasts_of l) (sym steps.0) ∙ i.gathered.2),
        c.join_seat.ensures.2
            ∙ ((λ j. (with_pass (i.gathered.3 j).0 (c.pass.invariant.seat_is j).0, (i.gathered.3 j).1))
            ∙ ap (λ (p : ℕ × List Entry). (gathering (past ++ p ∷ []) (left + me.0.left), [])) same),
      );
    }
