use Rattle.std.proofs.lemmas.Result.{IfOk-weaker}
use Rattle.tick_core.specs.{IsPlanFor}
use Rattle.server_hub.specs.session_core.{SendsShort, IsCountable, Planned}
use Rattle.server_hub.proofs.session_core.Planned.{plan_bounded}
use Rattle.server_hub.proofs.session_core.channel.Core.plan_tick.Goals as goal

pub returns-clause-few : goal.returns-clause-few
returns-clause-few c =
    let p = c.self.inside.parts in
    let events = c.self.invariant.events in
    let stands = c.self.invariant.stands in
    IfOk-weaker c.plan_tick.result (IsPlanFor p events) (λ (plan : Planned). IsCountable plan.answer)
    (λ plan is. (plan_bounded p events stands plan is).few) (c.plan_tick.ensures.stands events stands)

pub returns-clause-short : goal.returns-clause-short
returns-clause-short c =
    let p = c.self.inside.parts in
    let events = c.self.invariant.events in
    let stands = c.self.invariant.stands in
    IfOk-weaker c.plan_tick.result (IsPlanFor p events) (λ (plan : Planned). SendsShort plan.answer)
    (λ plan is. (plan_bounded p events stands plan is).short) (c.plan_tick.ensures.stands events stands)
