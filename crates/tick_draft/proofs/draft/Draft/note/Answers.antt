use Rattle.std.proofs.Common.{[], ◌∷◌, ◌++◌, List, Option, append-nil, refl, ap, sym, ◌∙◌}
use Rattle.std.specs.Prelude.{option_to_list}
use Rattle.rams_model.specs.declared.Note.{Note}
use Rattle.tick_draft.specs.declared.step.Step.{Step}
use Rattle.tick_draft.proofs.Stepping.{noted}
use Rattle.tick_draft.proofs.draft.Draft.note.Goals as goal

pub invariant_of-self-2 : goal.invariant_of-self-2
invariant_of-self-2 c =
    let here = c.self.inside in
    let note = c.args.note in
    noted here.steps c.push.new.self here.notes.items c.push_reserved.new.self.items here.orders.items here.orders.items [] note c.self.invariant c.requires refl
    (c.in_ok-push.ensures.pushed ∙ ap (λ (o : Option Step). here.steps ++ option_to_list o) c.other_step.ensures)
    (c.push_reserved.ensures.items ∙ ap (λ (l : List Note). l ++ note ∷ []) c.reserve.ensures.items)
    (sym (append-nil here.orders.items))
