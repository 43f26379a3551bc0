use Rattle.std.proofs.Common.{Some, None, ap, sym, ◌∙◌}
use Rattle.tick_core.specs.declared.allowance.Allowance.{Allowance}
use Rattle.tick_core.specs.{Repaired, allowance_for, told_by}
use Rattle.tick_core.proofs.Placing.{no_allowance, has_allowance, told_allowance}
use Rattle.tick_core.proofs.repairs.Repairs.allowance.Goals as goal

pub returns-in-Some : goal.returns-in-Some
returns-in-Some c =
    let here = c.self.inside in
    told_allowance here.most (told_by here.changed) c.args.client here.table.now c.in-Some.changed c.self.invariant.known c.in-Some.ensures
    ∙ ap (λ (r : Repaired). allowance_for c.args.client r.allowances) c.self.view_is

pub returns-in_err-entry : goal.returns-in_err-entry
returns-in_err-entry c =
    let here = c.self.inside in
    c.from_residual.ensures
    ∙ (no_allowance here.most (told_by here.changed) c.args.client here.table.now c.in_err-entry.ensures ∙ ap (λ (r : Repaired). allowance_for c.args.client r.allowances) c.self.view_is)

pub returns : goal.returns
returns c =
    let here = c.self.inside in
    ap (λ (a : Allowance). Some a) c.idle_allowance.ensures
    ∙ (has_allowance here.most (told_by here.changed) c.args.client here.table.now c.in_ok-entry.entry None c.in_ok-entry.ensures (sym c.in_default.ensures)
    ∙ ap (λ (r : Repaired). allowance_for c.args.client r.allowances) c.self.view_is)
