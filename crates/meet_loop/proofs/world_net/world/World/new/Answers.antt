use Rattle.std.proofs.Common.{List, [], refl, sym, ◌∙◌, subst}
use Rattle.server_hub.specs.{Pairwise}
use Rattle.meet_loop.specs.declared.world_net.seat.Seat.{Seat}
use Rattle.meet_loop.specs.world_net.{Follows}
use Rattle.meet_loop.proofs.world_net.Fresh.{new_came, no_place}
use Rattle.meet_loop.proofs.world_net.world.World.new.Goals as goal

pub returns-clause-stands : goal.returns-clause-stands
returns-clause-stands c = λ channels hub fresh. record {
  whole = refl;
  kept = record {
    hub = hub;
    packets = λ id n. c.new.ensures id n ∙ new_came channels id n fresh;
    parcels = c.new-2.ensures.items;
    places = λ id client. c.new-3.ensures id client ∙ no_place id client;
    apart = tt;
    seats = subst (λ (xs : List Seat). Pairwise Follows xs []) (sym c.new-4.ensures.items) tt;
  };
}
