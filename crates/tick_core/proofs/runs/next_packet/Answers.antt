use Rattle.std.proofs.Common.{refl, sym, ◌∙◌}
use Rattle.tick_core.proofs.Going.{none_there, stops_there, goes_on}
use Rattle.tick_core.proofs.runs.next_packet.Goals as goal

pub returns-in_err-held : goal.returns-in_err-held
returns-in_err-held c =
    rw c.from_residual.ensures (none_there c.args.stop c.args.at.now.next c.args.at.now.left c.args.cache.now.held (sym c.in_err-held.ensures.value))

pub returns-then-may_go : goal.returns-then-may_go
returns-then-may_go c =
    let within = c.in_ok-held.ensures.within.0 refl in
    goes_on c.args.stop c.args.at.now c.in_ok-held.held.now c.args.cache.now.held c.requires (sym c.in_ok-held.ensures.value) within.0 within.1 c.in_ok-held.ensures.number (sym c.may_go.ensures ∙ c.if-may_go.true)

pub returns-else-may_go : goal.returns-else-may_go
returns-else-may_go c =
    let within = c.in_ok-held.ensures.within.0 refl in
    stops_there c.args.stop c.args.at.now.next c.args.at.now.left c.in_ok-held.held.now c.args.cache.now.held c.requires (sym c.in_ok-held.ensures.value) within.0 c.in_ok-held.ensures.number (sym c.may_go.ensures ∙ c.if-may_go.false)
