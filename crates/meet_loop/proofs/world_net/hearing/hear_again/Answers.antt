use Rattle.std.proofs.Common.{refl}
use Rattle.meet_loop.proofs.world_net.Turned.{again_took, ok_both}
use Rattle.meet_loop.proofs.world_net.hearing.hear_again.Goals as goal

pub returns-clause-takes : goal.returns-clause-takes
returns-clause-takes c = λ l follows at.
    ok_both c.present_all.result c.present_all.ensures.notes c.present_all.ensures.receiver
    (again_took c.args.id c.args.client c.args.x c.args.parcel.now.bytes c.args.seat.now c.in-Some.receiver _ _ _ _ _ _ _ _ l follows at c.in-Some.is refl c.in_ok-came.ensures.first
    c.in_ok-came.ensures.came c.in_ok-came.ensures.after c.in_ok-say.ensures)
