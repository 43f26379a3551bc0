use Rattle.meet_loop.proofs.world_net.Turned.{multicast_took, ok_both}
use Rattle.meet_loop.proofs.world_net.hearing.hear_multicast.Goals as goal

pub returns-clause-takes : goal.returns-clause-takes
returns-clause-takes c = λ l x follows at.
    ok_both c.present_all.result c.present_all.ensures.notes c.present_all.ensures.receiver
    (multicast_took c.args.id c.args.client x c.args.bytes.now c.args.seat.now c.in-Some.receiver _ _ _ _ _ _ _ _ _ _ l follows at c.in-Some.is c.in_ok-came.ensures.came c.in_ok-came.ensures.join
    c.in_ok-came.ensures.after c.in_ok-say.ensures c.in_ok-post_joined.ensures.notes c.in_ok-post_joined.ensures.parcels)
