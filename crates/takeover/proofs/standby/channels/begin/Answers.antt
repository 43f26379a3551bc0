use Rattle.std.proofs.Common.{Some, Ok, ap, sym, subst}
use Rattle.std.specs.Prelude.{is_ok}
use Rattle.rams_model.specs.Texts.{head_line}
use Rattle.server_hub.specs.Seen as hubs
use Rattle.takeover.specs.standby.{Stands, Took, turn_of}
use Rattle.takeover.specs.declared.standby.fault.Step.TheVariants.{GoesOn}
use Rattle.takeover.proofs.standby.Turning.{accepts}
use Rattle.takeover.proofs.standby.Opening.{head_turn}
use Rattle.takeover.proofs.standby.channels.begin.Goals as goal

pub go_on-requires-clause-accepted : goal.go_on-requires-clause-accepted
go_on-requires-clause-accepted c =
    ap is_ok (accepts c.args.state.now (head_line c.args.version c.args.tick_ms c.args.link) c.requires.mode c.requires.may c.requires.range)

pub returns-clause-turn : goal.returns-clause-turn
returns-clause-turn c = λ stage ids events number stands.
    let head = head_line c.args.version c.args.tick_ms c.args.link in
    let took = head_turn c.args.hub.now ids events c.args.version c.args.tick_ms c.args.link number c.args.state.now c.go_on.new.self stage stands c.requires.may c.requires.range c.go_on.ensures.goes_on in
    subst (λ (v : hubs.Seen). Took (Ok GoesOn) (turn_of stage number head) (Stands (Some v) ids events c.go_on.new.self) number) (sym c.in_ok-new.ensures.value) took
