use Rattle.std.proofs.Common.{◌+◌, List, length, take, drop, length-drop, refl, ap, ◌∙◌, subst, arith}
use Rattle.std.proofs.lemmas.List.{take_rest, drop-drop}
use Rattle.rams_model.specs.Service.{Wanted}
use Rattle.tick_core.specs.{AreHeld, IsGone}
use Rattle.tick_core.proofs.Spent.{held_more}
use Rattle.tick_core.proofs.holding.Holding.held_front.Goals as goal

pub returns : goal.returns
returns c =
    let held = c.args.self.now in
    let ws = c.args.pending.now in
    let start = c.held_blocks-start.result in
    let count = c.held_each.result in
    record {
      within = omega (arith, c.held_blocks-start.ensures.within, c.held_each.ensures.within, ap length (take_rest ws start), length-drop start ws);
      held = held_more held ws start count (start + count) refl c.held_blocks-start.ensures.held (subst (λ (l : List Wanted). AreHeld held (take count l)) (take_rest ws start) c.held_each.ensures.held);
      gone = subst (IsGone held) (ap (drop count) (take_rest ws start) ∙ drop-drop count start ws) c.held_each.ensures.gone;
    }
