use Rattle.std.proofs.Common.{All, subst}
use Rattle.std.proofs.lemmas.Iterator.{YieldsList-from_slice}
use Rattle.std.proofs.lemmas.Iterator.Consumers.{YieldsList-end}
use Rattle.std.proofs.lemmas.List.Elements.{All-map}
use Rattle.mio.specs.Event.{event_token}
use Rattle.mio.specs.Events.{items}
use Rattle.mio.specs.declared.event.event.Event.{Event}
use Rattle.udp_edge.specs.{IsReady}
use Rattle.udp_edge.proofs.sockets.mark_all.Goals as goal

-- the loop gave every event
pub returns-clause-marked : goal.returns-clause-marked
returns-clause-marked c =
    let marked = λ (e : Event). IsReady c.loop-event.round.ready (event_token e).0 in
    let source = YieldsList-from_slice (items c.args.events.now) c.into_iter-event-iterator.ensures.into_iter_gives.0 in
    let end = YieldsList-end source c.loop-event.yielded _ c.loop-event.yielded_by _ _ c.in-None.is c.next.ensures.steps in
    subst (All marked) end.0 (All-map marked (λ e. e.now) c.loop-event.yielded c.loop-event.invariant.marked)
