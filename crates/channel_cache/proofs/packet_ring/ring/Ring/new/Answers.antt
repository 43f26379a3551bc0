use Rattle.std.proofs.Common.{sym, subst, []}
use Rattle.circular_buffer.specs.Buffer.{Buffer}
use Rattle.rams_model.specs.declared.Held.{Held}
use Rattle.channel_cache.specs.packet_ring.{IsRing, StandsFor}
use Rattle.channel_cache.proofs.packet_ring.Ends.{nothing_stands}
use Rattle.channel_cache.proofs.packet_ring.Following.{empty_is_ring}
use Rattle.channel_cache.proofs.packet_ring.ring.Ring.new.Goals as goal

pub invariant_of-result : goal.invariant_of-result
invariant_of-result c =
    subst (λ (b : Buffer Held). IsRing (record { capacity = b.capacity; held = b.items })) (sym (c.in_ok-with_capacity.ensures)) (empty_is_ring c.args.capacity c.requires)

pub returns-clause-stands : goal.returns-clause-stands
returns-clause-stands c =
    subst (λ (b : Buffer Held). StandsFor (record { capacity = b.capacity; held = b.items }) []) (sym (c.in_ok-with_capacity.ensures)) (sym (nothing_stands c.args.capacity))
