use Rattle.std.proofs.Common.{refl, arith}
use Rattle.server_hub.proofs.hub.Hub.new.Goals as goal

pub invariant_of-result : goal.invariant_of-result
invariant_of-result c =
    rw (c.new.ensures.items, c.in_ok-with_capacity.ensures.items) (record {
      lawful = record {
        tick_least = c.requires.tick_least;
        tick_most = c.requires.tick_most;
        link_least = c.requires.link_least;
        link_most = c.requires.link_most;
        channels = record { few = omega arith; once = λ i j d less short. absurd (omega arith); shares = omega arith; ticks = λ k d less. absurd (omega arith) };
        counted = λ k d less. absurd (omega arith);
      };
      ids_are = refl;
      room_is = omega (arith, c.in_ok-with_capacity.ensures.capacity);
      claimed_is = refl;
    })
