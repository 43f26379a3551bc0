use Rattle.std.proofs.Common.{List, subst}
use Rattle.rams_model.specs.declared.Held.{Held}
use Rattle.channel_cache.specs.{ring_of}
use Rattle.tick_core.specs.{AreHeld}
use Rattle.tick_core.proofs.Within.{all_there}
use Rattle.tick_core.proofs.holding.Holding.has_all.Goals as goal

pub returns : goal.returns
returns c = λ t.
    let h = c.self.inside in
    subst (λ (held : List Held). AreHeld held c.args.piece.now) c.self.view_is
    (all_there (ring_of h.cache.now) h.oldest h.end c.args.piece.now c.self.invariant.ring c.self.invariant.low c.self.invariant.high (c.are_from.ensures t))
