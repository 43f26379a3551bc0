use Rattle.std.proofs.Common.{◌&&◌, not, ltb, ap, sym, ◌∙◌}
use Rattle.rams_model.specs.Packets.{hi}
use Rattle.tick_core.proofs.Going.{lent_lost}
use Rattle.tick_core.proofs.runs.is_lost.Goals as goal

pub returns-then-is_none : goal.returns-then-is_none
returns-then-is_none c =
    let next = c.args.next in
    ap (ltb next) c.hi.ensures.value ∙ (sym (ap (λ b. not b && ltb next (hi c.args.cache.now.held)) c.if-is_none.ensures) ∙ sym (lent_lost c.held.result next c.args.cache.now.held c.held.ensures.value))

pub returns-else-is_none : goal.returns-else-is_none
returns-else-is_none c =
    let next = c.args.next in
    c.if-is_none.false ∙ (sym (ap (λ b. not b && ltb next (hi c.args.cache.now.held)) c.if-is_none.ensures) ∙ sym (lent_lost c.held.result next c.args.cache.now.held c.held.ensures.value))
