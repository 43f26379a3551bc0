use Rattle.std.proofs.Common.{◌≡◌, List, [], ◌∷◌, ◌++◌, sym, ap, ◌∙◌, subst, append_assoc}
use Rattle.std.specs.Vec.Iter.{into_iter_items}
use Rattle.std.proofs.lemmas.List.Elements.{All-same, All-head, All-tail}
use Rattle.atomic_table.specs.Table.{Joins}
use Rattle.pool.specs.link_pool.{Claimer}
use Rattle.pool.specs.link_pool.Sharing.{blank, granting, Fair}
use Rattle.pool.specs.link_pool.Steps.{Mine, with_taker}
use Rattle.pool.specs.link_pool.Parties.{claims_given, numbers_given, Carries, IsTaker}
use Rattle.channel_book.proofs.channel_lock.Lists.{each_snoc}
use Rattle.pool.proofs.link_pool.Gathering.{gives_back, gathers}
use Rattle.pool.proofs.link_pool.seats.gather.Goals as goal

pub join_seat-requires : goal.join_seat-requires
join_seat-requires c =
    let table = c.args.link.now in
    let i = c.loop-taker.invariant in
    let steps = c.in-Some.ensures.steps in
    let seat = c.loop-taker.seat in
    let own = c.taker.inside.seat in
    let at = c.taker.invariant.seat_is in
    let done = i.gathered.0 in
    let granted = c.args.seat.me.0.granted in
    let P : Claimer → Type 0 = λ t. t.pool ≡ table.table_id in
    let mine : c.in-Some.taker.pool ≡ table.table_id =
    All-head P c.in-Some.taker (into_iter_items c.next.new.self) (All-same P (c.in-Some.taker ∷ into_iter_items c.next.new.self) (into_iter_items c.loop-taker.taker-iterator) (sym steps.0) i.made) in (
      i.table,
      ap (λ (k : Claimer). k.pool) c.taker.view_is ∙ mine,
      ap (λ (m : Mine). m.1) at,
      c.requires.table.1,
      subst (λ (m : Mine). Joins (Fair table.key) seat.id m.0 own.id own.me.0 (with_taker m.0 own.me.0) blank) (sym i.gathered.3.seat_is)
          (subst (λ (m : Mine). Joins (Fair table.key) seat.id (granting granted (numbers_given done) (claims_given done) seat.me.0.left) own.id m.0 (with_taker (granting granted (numbers_given done) (claims_given done) seat.me.0.left) m.0) blank) (sym at)
          (gives_back table.key seat.id own.id granted (numbers_given done) (claims_given done) seat.me.0.left c.taker.inside.number c.taker.inside.claims.items own.me.0.left)),
    )

pub loop-taker-preserved : goal.loop-taker-preserved
loop-taker-preserved c =
    let table = c.args.link.now in
    let i = c.loop-taker.invariant in
    let steps = c.in-Some.ensures.steps in
    let later = into_iter_items c.next.new.self in
    let done = i.gathered.0 in
    let t = c.in-Some.taker in
    let P : Claimer → Type 0 = λ u. u.pool ≡ table.table_id in record {
      can_next = tt;
      is_finite = tt;
      table = c.join_seat.ensures.0 ∙ i.table;
      made = All-tail P t later (All-same P (t ∷ later) (into_iter_items c.loop-taker.taker-iterator) (sym steps.0) i.made);
      gathered = (
        done ++ t ∷ [],
        append_assoc done (t ∷ []) later ∙ (ap (λ (l : List Claimer). done ++ l) (sym steps.0) ∙ i.gathered.1),
        each_snoc Carries done t i.gathered.2 (subst Carries c.taker.view_is c.taker.invariant.own),
        gathers c.args.seat.me.0.granted done t c.loop-taker.seat.me c.taker.inside.seat.me c.join_seat.new.seat.me i.gathered.3
            (subst (λ (u : Claimer). IsTaker u.number u.claims c.taker.inside.seat.me) c.taker.view_is c.taker.invariant) c.join_seat.ensures.2,
      );
    }
