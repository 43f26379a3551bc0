use Rattle.std.proofs.Common.{◌≡◌, ℕ, ◌+◌, ◌-◌, ◌*◌, ◌^◌, List, [], ◌∷◌, ◌++◌, refl, sym, ap, ◌∙◌, subst, arith}
use Rattle.atomic_table.specs.Table.{Splits}
use Rattle.channel_book.specs.channel_lock.{known, numbers}
use Rattle.channel_book.specs.channel_lock.Turns.{dealing, Turns}
use Rattle.channel_book.specs.channel_lock.Steps.{Mine, undealt, dealt}
use Rattle.channel_book.proofs.channel_lock.Dealing.{deals}
use Rattle.channel_book.proofs.channel_lock.Calling.{at_rest, fresh_snoc}
use Rattle.channel_book.proofs.channel_lock.passes.deal.Goals as goal
use Rattle.channel_book.proofs.channel_lock.Numbers.{numbers_next}

pub split_seat-own-requires : goal.split_seat-own-requires
split_seat-own-requires c =
    let table = c.args.shared.now in
    let s = c.args.config.now in
    let list = c.loop-list.list in
    let i = c.loop-list.invariant in
    let later = numbers (list + 1) (c.args.seats - (list + 1)) in
    let is : c.loop-list.seat.me ≡ (dealing s (list ∷ later) (2 ^ 40 - list * 2 ^ 34), []) =
    i.view ∙ ap (λ (l : List ℕ). (dealing s l (2 ^ 40 - list * 2 ^ 34), [])) (numbers_next list c.args.seats c.loop-list-test.true) in (
      i.table ∙ c.requires.table.0,
      c.requires.table.1,
      subst (λ (m : Mine). Splits (Turns table.key.config table.key.passes) c.loop-list.seat.id m.0 (undealt m.0) (dealt m.0)) (sym is)
          (deals table.key.config s table.key.passes c.loop-list.seat.id list later (2 ^ 40 - list * 2 ^ 34) (omega (arith, c.requires.seats, c.loop-list-test.true))),
    )

pub invariant_of-push_reserved : goal.invariant_of-push_reserved
invariant_of-push_reserved c =
    let s = c.args.config.now in
    let list = c.loop-list.list in
    let later = numbers (list + 1) (c.args.seats - (list + 1)) in
    let is : c.loop-list.seat.me ≡ (dealing s (list ∷ later) (2 ^ 40 - list * 2 ^ 34), []) =
    c.loop-list.invariant.view ∙ ap (λ (l : List ℕ). (dealing s l (2 ^ 40 - list * 2 ^ 34), [])) (numbers_next list c.args.seats c.loop-list-test.true) in
    at_rest s list 0 [] (2 ^ 34) c.split_seat-own.result.me (c.split_seat-own.ensures.4 ∙ ap (λ (m : Mine). (dealt m.0, [])) is) refl tt

pub loop-list-preserved : goal.loop-list-preserved
loop-list-preserved c =
    let s = c.args.config.now in
    let list = c.loop-list.list in
    let i = c.loop-list.invariant in
    let later = numbers (list + 1) (c.args.seats - (list + 1)) in
    let is : c.loop-list.seat.me ≡ (dealing s (list ∷ later) (2 ^ 40 - list * 2 ^ 34), []) =
    i.view ∙ ap (λ (l : List ℕ). (dealing s l (2 ^ 40 - list * 2 ^ 34), [])) (numbers_next list c.args.seats c.loop-list-test.true) in
    let fewer : 2 ^ 40 - list * 2 ^ 34 - 2 ^ 34 ≡ 2 ^ 40 - (list + 1) * 2 ^ 34 = omega (arith, c.requires.seats, c.loop-list-test.true) in
    let own = c.split_seat-own.ensures in
    let mine : c.split_seat-own.result.me ≡ (dealt (dealing s (list ∷ later) (2 ^ 40 - list * 2 ^ 34)), []) = own.4 ∙ ap (λ (m : Mine). (dealt m.0, [])) is in
    let pass : known c.split_seat-own.result.table_id s list c.split_seat-own.result.me.0.log c.split_seat-own.result.me.0.left ≡ known c.args.seat.table_id s list [] (2 ^ 34) =
    λ j. known ((own.3 ∙ i.table) j) s list (ap (λ (m : Mine). m.0.log) mine j) (ap (λ (m : Mine). m.0.left) mine j) in record {
      table = own.0 ∙ i.table;
      view = own.2 ∙ (ap (λ (m : Mine). (undealt m.0, m.1)) is ∙ ap (λ (left : ℕ). (dealing s later left, [])) fewer);
      dealt = c.push_reserved.ensures.items ∙ ((λ j. i.dealt j ++ pass j ∷ []) ∙ sym (fresh_snoc c.args.seat.table_id s list));
      count = c.push_reserved.ensures.len ∙ ap (λ (k : ℕ). k + 1) i.count;
      room = c.push_reserved.ensures.capacity ∙ i.room;
    }
