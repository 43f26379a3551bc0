use Rattle.std.proofs.Common.{◌∙◌, subst}
use Rattle.client_table.specs.{IsPlace, IsGap}
use Rattle.client_table.proofs.Placing.{closed_gap, closed_place}
use Rattle.client_table.proofs.bursts.close_client.Goals as goal

pub returns-in-Ok-clause-items : goal.returns-in-Ok-clause-items
returns-in-Ok-clause-items c =
    c.remove.ensures.items
    ∙ closed_place c.args.client c.args.bursts.now.items c.in-Ok.place c.requires.rise (subst (λ l. IsPlace c.args.client l c.in-Ok.place) c.deref.ensures.value c.in-Ok.ensures)

pub returns-in_default-clause-items : goal.returns-in_default-clause-items
returns-in_default-clause-items c =
    closed_gap c.args.client c.args.bursts.now.items c.in_default.field-0 (subst (λ l. IsGap c.args.client l c.in_default.field-0) c.deref.ensures.value c.in_default.ensures)
