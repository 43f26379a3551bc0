use Rattle.std.proofs.Common.{◌≡◌, length, ◌∙◌, ap, subst, arith}
use Rattle.client_table.specs.{IsPlace, IsGap}
use Rattle.client_table.proofs.Placing.{opened_gap, opened_place, went_in}
use Rattle.client_table.proofs.bursts.open_client.Goals as goal

pub returns-in-Err-clause-items : goal.returns-in-Err-clause-items
returns-in-Err-clause-items c =
    let items : c.deref.result.now ≡ c.args.bursts.now.items = c.deref.ensures.value in
    let gap = subst (λ l. IsGap c.args.client l c.in-Err.place) items c.in-Err.ensures in
    went_in c.insert.result _ _ _ (c.insert.ensures.succeeds (omega (arith, c.deref.ensures.len, ap length items, c.requires.room))) c.insert.ensures.items
    ∙ opened_gap c.args.client c.args.key c.args.bursts.now.items c.in-Err.place gap

pub returns-in_default-clause-items : goal.returns-in_default-clause-items
returns-in_default-clause-items c =
    opened_place c.args.client c.args.key c.args.bursts.now.items c.in_default.field-0 c.requires.rise (subst (λ l. IsPlace c.args.client l c.in_default.field-0) c.deref.ensures.value c.in_default.ensures)
