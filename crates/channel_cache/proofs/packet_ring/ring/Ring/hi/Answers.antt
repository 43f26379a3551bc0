use Rattle.std.proofs.Common.{Some, None, ap, sym, ◌∙◌, arith}
use Rattle.rams_model.specs.Packets.{hi}
use Rattle.channel_cache.specs.packet_ring.Seen.{Seen}
use Rattle.channel_cache.proofs.packet_ring.Following.{newest_of}
use Rattle.channel_cache.proofs.packet_ring.ring.Ring.hi.Goals as goal

pub overflow_add-result : goal.overflow_add-result
overflow_add-result c = let ends = newest_of (Some c.in-Some.held) c.self.inside.packets.items c.self.invariant.follows c.in-Some.ensures in omega (arith, ends, c.self.invariant.small)

pub returns-in-Some-clause-value : goal.returns-in-Some-clause-value
returns-in-Some-clause-value c =
    newest_of (Some c.in-Some.held) c.self.inside.packets.items c.self.invariant.follows c.in-Some.ensures ∙ ap (λ (v : Seen). hi v.held) c.self.view_is

pub returns-in-None-clause-value : goal.returns-in-None-clause-value
returns-in-None-clause-value c =
    sym (newest_of None c.self.inside.packets.items c.self.invariant.follows c.in-None.ensures) ∙ ap (λ (v : Seen). hi v.held) c.self.view_is
