use Rattle.meet_loop.specs.world_laws.{waiting}
use Rattle.meet_loop.specs.world_net.{show_at}
use Rattle.meet_loop.proofs.world_net.AllShown.{IsPresenting}
use Rattle.meet_loop.proofs.world_net.presenting.present_all.Given as goal

abbrev pub invariant-loop-shown : goal.invariant-loop-shown
invariant-loop-shown l = IsPresenting (show_at l.id l.client) l.fn.notes.items l.notes.items l.fn.receiver l.receiver

abbrev pub decreases-loop-shown : goal.decreases-loop-shown
decreases-loop-shown l = waiting l.receiver.got.play
