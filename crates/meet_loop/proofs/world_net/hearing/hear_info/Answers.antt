use Rattle.meet_loop.proofs.world_net.Turned.{info_took, ok_both}
use Rattle.meet_loop.proofs.world_net.hearing.hear_info.Goals as goal

pub returns-clause-takes : goal.returns-clause-takes
returns-clause-takes c = λ l follows at.
    ok_both c.present_all.result c.present_all.ensures.notes c.present_all.ensures.receiver
    (info_took c.args.id c.args.client c.args.bytes.now c.args.seat.now c.in-Some.receiver _ _ _ _ _ _ l follows at c.in-Some.is c.info-came.ensures.came c.info-came.ensures.after c.in_ok-say.ensures)
