use Rattle.std.proofs.Common.{List, [], ◌∷◌, ◌++◌, ap, sym, ◌∙◌, subst}
use Rattle.tick_draft.specs.declared.{sendings.Sendings.Sendings, step.Step.Step, step.Step.TheVariants.Sent}
use Rattle.tick_draft.specs.{with_last, AreBoth}
use Rattle.tick_draft.proofs.Stepping.{behind, grown}
use Rattle.tick_draft.proofs.steps.Steps.send.Goals as goal

pub returns-in-Some-and-clause-sent : goal.returns-in-Some-and-clause-sent
returns-in-Some-and-clause-sent c =
    let steps = c.self.inside.steps.items in
    let old = ap (with_last steps) (sym c.in-Some.is) ∙ c.self.view_is in
    subst (λ (l : List Step). AreBoth l (Sent c.args.next ∷ []) (steps ++ Sent c.in-Some-and.both ∷ [])) old
    (subst (λ (x : Sendings). AreBoth (steps ++ Sent c.in-Some.last ∷ []) (Sent c.args.next ∷ []) (steps ++ Sent x ∷ [])) (sym c.in-Some-and.ensures.1) (grown steps c.in-Some.last c.args.next c.in-Some-and.ensures.0))

pub returns-clause-sent : goal.returns-clause-sent
returns-clause-sent c =
    let items = c.close_row.new.steps.items in
    let same = ap (with_last items) (sym c.in_ok-close_row.ensures.closed) ∙ (c.close_row.ensures.same ∙ c.self.view_is) in
    subst (λ (l : List Step). AreBoth l (Sent c.args.next ∷ []) (items ++ Sent c.args.next ∷ [])) same (behind items (Sent c.args.next ∷ []))
