use Rattle.std.proofs.Common.{◌-◌, max, sym, ◌∙◌, ap, subst, arith}
use Rattle.channel_cache.specs.reorder_window.{has_number, seen_of, next_missing, keeping, first_free, IsWindow}
use Rattle.channel_cache.specs.reorder_window.Seen.{Seen}
use Rattle.channel_cache.proofs.reorder_window.Keeping.{keeping_is, room_for, IsWindow-keeping}
use Rattle.channel_cache.proofs.reorder_window.window.Window.keep_in_time.Goals as goal

pub put-requires : goal.put-requires
put-requires g c =
    let w = c.self.inside in
    let v = seen_of w.width w.awaited w.greatest w.ended w.kept.items in
    let few = room_for v c.self.invariant.0 (ap (λ x. x.ended) c.self.view_is ∙ c.requires.going) (ap first_free c.self.view_is ∙ c.requires.settled) in
    omega (arith, few, w.kept.ok, c.self.invariant.1)

pub returns-clause-step : goal.returns-clause-step
returns-clause-step g c =
    let w = c.self.inside in
    let v = seen_of w.width w.awaited w.greatest w.ended w.kept.items in
    let lowest = c.saturating_sub-lowest.ensures ∙ ap (λ n. c.max-self-inside.result - n) c.from.ensures in
    let next = c.missing_from-self-inside.ensures ∙ (ap (λ a. next_missing a c.deref-2.result.now) (c.max.ensures ∙ ap (max w.awaited) lowest) ∙ ap (next_missing (max w.awaited (c.max-self-inside.result - w.width))) c.deref-2.ensures.value) in
    keeping_is v c.args.n c.args.item c.missing_from-self-inside.result c.max-self-inside.result c.put.new.kept.items next c.max-self-inside.ensures c.put.ensures.items
    ∙ ap (λ x. keeping x c.args.n c.args.item) c.self.view_is

pub invariant_of-self : goal.invariant_of-self
invariant_of-self g c =
    let w = c.self.inside in
    let v = seen_of w.width w.awaited w.greatest w.ended w.kept.items in
    let lowest = c.saturating_sub-lowest.ensures ∙ ap (λ n. c.max-self-inside.result - n) c.from.ensures in
    let next = c.missing_from-self-inside.ensures ∙ (ap (λ a. next_missing a c.deref-2.result.now) (c.max.ensures ∙ ap (max w.awaited) lowest) ∙ ap (next_missing (max w.awaited (c.max-self-inside.result - w.width))) c.deref-2.ensures.value) in
    let is = keeping_is v c.args.n c.args.item c.missing_from-self-inside.result c.max-self-inside.result c.put.new.kept.items next c.max-self-inside.ensures c.put.ensures.items in
    let going = ap (λ x. x.ended) c.self.view_is ∙ c.requires.going in
    let settled = ap first_free c.self.view_is ∙ c.requires.settled in
    let new = ap (has_number c.args.n) (sym c.deref.ensures.value) ∙ (sym c.is_kept.ensures ∙ c.if-is_kept.false) in (
      subst (λ (x : Seen g.row.T.Denot). IsWindow x) (sym is) (IsWindow-keeping v c.args.n c.args.item c.self.invariant.0 going settled c.requires.small c.if-n-self.false new),
      omega (arith, c.self.invariant.1, c.put.ensures.capacity),
    )
