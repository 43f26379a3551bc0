use Rattle.std.proofs.Common.{ap, sym, ◌∙◌}
use Rattle.tick_core.specs.{Repaired, allowance_for}
use Rattle.tick_core.proofs.Placing.{found_again}
use Rattle.tick_core.proofs.repairs.Repairs.ask.Goals as goal

pub invariant_of-self : goal.invariant_of-self
invariant_of-self c = record {
  rising = c.self.invariant.rising;
  known = c.self.invariant.known;
  asked = found_again c.args.client _ c.allowance-self-inside.result (c.allowance-self-inside.ensures ∙ ap (λ (r : Repaired). allowance_for c.args.client r.allowances) (sym c.self.view_is));
}
