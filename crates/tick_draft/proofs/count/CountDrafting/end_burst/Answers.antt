use Rattle.std.proofs.Common.{◌++◌, Option, ap, sym, ◌∙◌, subst, refl}
use Rattle.std.specs.Prelude.{option_to_list}
use Rattle.tick_draft.specs.declared.step.Step.{Step}
use Rattle.tick_draft.specs.{Counted, IsCountOf}
use Rattle.tick_draft.proofs.Tallied.{counts_end}
use Rattle.tick_draft.proofs.count.CountDrafting.end_burst.Goals as goal

pub returns : goal.returns
returns c = λ d is.
    let here = c.self.inside in
    let old : Counted = record { steps = here.steps; left = here.left } in
    let new : Counted = record { steps = c.push.new.self; left = here.left } in
    counts_end old new d c.args.client c.args._last.now c.args.cause (subst (λ (x : Counted). IsCountOf x d) (sym c.self.view_is) is) (c.in_ok-push.ensures.pushed ∙ ap (λ (o : Option Step). here.steps ++ option_to_list o) c.end_step.ensures) refl
