use Rattle.std.proofs.Common.{[], ◌∷◌, ◌++◌, List, Option, ap, ◌∙◌}
use Rattle.std.specs.Prelude.{option_to_list}
use Rattle.rams_model.specs.declared.{Note.Note, Order.Order, Note.TheVariants.End as EndNote}
use Rattle.tick_draft.proofs.Stepping.{ended}
use Rattle.tick_draft.proofs.draft.Draft.end.Goals as goal

pub invariant_of-self-2 : goal.invariant_of-self-2
invariant_of-self-2 c =
    let here = c.self.inside in
    let client = c.args.client in
    let cause = c.in-Some.cause in
    ended here.steps c.push.new.self here.notes.items c.push_reserved.new.self.items here.orders.items c.push_order.new.orders.items client cause c.args.last.now c.self.invariant c.in_ok-push.ensures.pushed
    (c.push_reserved.ensures.items ∙ ap (λ (l : List Note). l ++ EndNote client cause ∷ []) c.reserve.ensures.items)
    (c.push_order.ensures
    ∙ (ap (λ (l : List Order). l ++ option_to_list c.end_order.result) c.reserve-2.ensures.items ∙ ap (λ (o : Option Order). here.orders.items ++ option_to_list o) c.end_order.ensures))
