use Rattle.std.proofs.Common.{sym, ◌∙◌, subst}
use Rattle.meet_loop.specs.world_net.{Seen, StandsFor}
use Rattle.meet_loop.proofs.world_net.Fresh.{added_came}
use Rattle.meet_loop.proofs.world_net.Steps.{ok_then}
use Rattle.meet_loop.proofs.world_net.world.World.add.Goals as goal

pub returns-clause-stands : goal.returns-clause-stands
returns-clause-stands c = λ w s.
    let k = subst (λ (v : Seen). StandsFor v w) (sym c.self.view_is) s in
    ok_then c.add.result (c.add.ensures.stands w.channels k.kept.hub) (λ hub. record {
      whole = k.whole;
      kept = record {
        hub = hub;
        packets = λ id n. k.kept.packets id n ∙ added_came w.channels c.args.config id n;
        parcels = k.kept.parcels;
        places = k.kept.places;
        apart = k.kept.apart;
        seats = k.kept.seats;
      };
    })
