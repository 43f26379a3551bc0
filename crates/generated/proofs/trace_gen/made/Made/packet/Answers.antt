use Rattle.std.proofs.Common.{◌<◌, ap, arith}
use Rattle.generated.specs.trace_gen.{Place}
use Rattle.generated.proofs.trace_gen.Drawing.{draws_after}
use Rattle.generated.proofs.trace_gen.made.Made.packet.Goals as goal

pub invariant_of-self : goal.invariant_of-self
invariant_of-self c =
    let p = c.self.inside in
    let within : p.events < 10 = omega (arith, ap (λ (q : Place). q.events) c.self.view_is, c.requires.next) in
    record {
      within = omega (arith, within);
      feedback = λ e. absurd (omega (arith, e, within));
      state = draws_after p.seed p.block p.events p.state c.stepped-state.result within c.self.invariant.state c.stepped-state.ensures;
      drawn = λ b e. absurd (omega (arith, e, within));
      kept = c.self.invariant.kept;
      small = c.self.invariant.small;
    }
