use Rattle.std.proofs.Common.{List, is_some, ap, ◌∙◌}
use Rattle.rams_model.specs.declared.Held.{Held}
use Rattle.channel_cache.specs.{ring_of}
use Rattle.channel_cache.specs.packet_ring.{packet_of}
use Rattle.tick_core.proofs.Within.{told_above, told_below}
use Rattle.tick_core.proofs.holding.Holding.has.Goals as goal

pub returns-then-self-n : goal.returns-then-self-n
returns-then-self-n c =
    let h = c.self.inside in
    told_above (ring_of h.cache.now) c.args.n h.oldest h.end c.self.invariant.ring c.self.invariant.low c.self.invariant.high c.if-self-n.true
    ∙ ap (λ (held : List Held). is_some (packet_of c.args.n held)) c.self.view_is

pub returns-else-self-n : goal.returns-else-self-n
returns-else-self-n c =
    let h = c.self.inside in
    told_below (ring_of h.cache.now) c.args.n h.oldest c.self.invariant.ring c.self.invariant.low c.if-self-n.false ∙ ap (λ (held : List Held). is_some (packet_of c.args.n held)) c.self.view_is
