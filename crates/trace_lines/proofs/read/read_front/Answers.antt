use Rattle.std.proofs.Common.{subst, sym, ap, ◌∷◌, ◌∙◌, codes}
use Rattle.rams_model.specs.Texts.{line_in}
use Rattle.trace_lines.specs.{Narrows}
use Rattle.trace_lines.proofs.Fronts.{behind_live, behind_fb, behind_give}
use Rattle.trace_lines.proofs.read.read_front.Goals as goal

pub returns-in-Some-clause-line : goal.returns-in-Some-clause-line
returns-in-Some-clause-line c =
    let read = rw c.as_slice.ensures at c.in-Some.ensures.cases in
    let words = behind_live c.args.line.now c.in-Some.rest.now read.0 read.1 ∙ ap (λ ws. codes "live" ∷ ws) (sym c.of.ensures) in
    subst (λ ws. Narrows c.live.result (line_in ws)) (sym words) c.live.ensures.line

pub returns-in-Some-strip_prefix-clause-line : goal.returns-in-Some-strip_prefix-clause-line
returns-in-Some-strip_prefix-clause-line c =
    let read = rw c.as_slice-2.ensures at c.in-Some-strip_prefix.ensures.cases in
    let words = behind_fb c.args.line.now c.in-Some-strip_prefix.rest.now read.0 read.1 ∙ ap (λ ws. codes "fb" ∷ ws) (sym c.of-in-Some-strip_prefix.ensures) in
    subst (λ ws. Narrows c.feedback.result (line_in ws)) (sym words) c.feedback.ensures.line

pub returns-in-Some-strip_prefix-2-clause-line : goal.returns-in-Some-strip_prefix-2-clause-line
returns-in-Some-strip_prefix-2-clause-line c =
    let read = rw c.as_slice-3.ensures at c.in-Some-strip_prefix-2.ensures.cases in
    let words = behind_give c.args.line.now c.in-Some-strip_prefix-2.rest.now read.0 read.1 ∙ ap (λ ws. codes "give" ∷ ws) (sym c.of-in-Some-strip_prefix-2.ensures) in
    subst (λ ws. Narrows c.give.result (line_in ws)) (sym words) c.give.ensures.line
