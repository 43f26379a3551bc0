use Rattle.std.proofs.Common.{◌≡◌, ℕ, ◌+◌, ◌-◌, ◌*◌, ◌^◌, List, [], ◌∷◌, ◌++◌, sym, ap, ◌∙◌, subst, arith}
use Rattle.atomic_table.specs.Table.{Splits}
use Rattle.pool.specs.link_pool.Sharing.{granting, Fair}
use Rattle.pool.specs.link_pool.Steps.{Mine, undealt, dealt}
use Rattle.pool.specs.link_pool.Parties.{claimer}
use Rattle.pool.proofs.link_pool.Dealing.{deals, fresh_snoc, new_taker}
use Rattle.pool.proofs.link_pool.seats.deal.Goals as goal
use Rattle.channel_book.specs.channel_lock.{numbers}
use Rattle.channel_book.proofs.channel_lock.Numbers.{numbers_next}

pub split_seat-own-requires : goal.split_seat-own-requires
split_seat-own-requires c =
    let table = c.args.link.now in
    let number = c.loop-number.number in
    let i = c.loop-number.invariant in
    let later = numbers (number + 1) (c.args.count - (number + 1)) in
    let is : c.loop-number.seat.me ≡ (granting 0 (number ∷ later) [] (2 ^ 54 - number * 2 ^ 48), []) =
    i.view ∙ ap (λ (l : List ℕ). (granting 0 l [] (2 ^ 54 - number * 2 ^ 48), [])) (numbers_next number c.args.count c.loop-number-test.true) in (
      i.table ∙ c.requires.table.0,
      c.requires.table.1,
      subst (λ (m : Mine). Splits (Fair table.key) c.loop-number.seat.id m.0 (undealt m.0) (dealt m.0)) (sym is)
          (deals table.key c.loop-number.seat.id number later (2 ^ 54 - number * 2 ^ 48) (omega (arith, c.requires.count, c.loop-number-test.true))),
    )

pub invariant_of-push_reserved : goal.invariant_of-push_reserved
invariant_of-push_reserved c =
    let number = c.loop-number.number in
    let later = numbers (number + 1) (c.args.count - (number + 1)) in
    let is : c.loop-number.seat.me ≡ (granting 0 (number ∷ later) [] (2 ^ 54 - number * 2 ^ 48), []) =
    c.loop-number.invariant.view ∙ ap (λ (l : List ℕ). (granting 0 l [] (2 ^ 54 - number * 2 ^ 48), [])) (numbers_next number c.args.count c.loop-number-test.true) in
    new_taker number c.new.result.items c.split_seat-own.result.me c.new.ensures.items (c.split_seat-own.ensures.4 ∙ ap (λ (m : Mine). (dealt m.0, [])) is)

pub loop-number-preserved : goal.loop-number-preserved
loop-number-preserved c =
    let number = c.loop-number.number in
    let i = c.loop-number.invariant in
    let later = numbers (number + 1) (c.args.count - (number + 1)) in
    let is : c.loop-number.seat.me ≡ (granting 0 (number ∷ later) [] (2 ^ 54 - number * 2 ^ 48), []) =
    i.view ∙ ap (λ (l : List ℕ). (granting 0 l [] (2 ^ 54 - number * 2 ^ 48), [])) (numbers_next number c.args.count c.loop-number-test.true) in
    let fewer : 2 ^ 54 - number * 2 ^ 48 - 2 ^ 48 ≡ 2 ^ 54 - (number + 1) * 2 ^ 48 = omega (arith, c.requires.count, c.loop-number-test.true) in
    let own = c.split_seat-own.ensures in
    let taker : claimer c.split_seat-own.result.table_id number c.new.result.items ≡ claimer c.args.seat.now.table_id number [] =
    λ j. claimer ((own.3 ∙ i.table) j) number (c.new.ensures.items j) in record {
      table = own.0 ∙ i.table;
      view = own.2 ∙ (ap (λ (m : Mine). (undealt m.0, m.1)) is ∙ ap (λ (left : ℕ). (granting 0 later [] left, [])) fewer);
      dealt = c.push_reserved.ensures.items ∙ ((λ j. i.dealt j ++ taker j ∷ []) ∙ sym (fresh_snoc c.args.seat.now.table_id number));
      count = c.push_reserved.ensures.len ∙ ap (λ (k : ℕ). k + 1) i.count;
      room = c.push_reserved.ensures.capacity ∙ i.room;
    }
