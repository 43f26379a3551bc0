use Rattle.std.proofs.Common.{Option, ap, subst, ◌∙◌}
use Rattle.std.specs.Prelude.{is_ok}
use Rattle.server_hub.specs.{event_of}
use Rattle.server_hub.specs.Seen as hubs
use Rattle.trace_lines.specs.{shown}
use Rattle.takeover.specs.standby.{Stands}
use Rattle.takeover.proofs.standby.Turning.{accepts, begun_by, served_turn, too_long_turn}
use Rattle.takeover.proofs.standby.channels.serve.Goals as goal

pub returns-then-events-ge-MOST_EVENTS-clause-turn : goal.returns-then-events-ge-MOST_EVENTS-clause-turn
returns-then-events-ge-MOST_EVENTS-clause-turn c = λ stage ids number stands.
    too_long_turn ids c.args.events.now c.args.state.now stage number (shown c.args.line.now) (event_of c.args.heard) c.requires.may c.requires.range c.requires.brings c.args.hub.now stands c.if-events-ge-MOST_EVENTS.true

pub go_on-requires-clause-accepted : goal.go_on-requires-clause-accepted
go_on-requires-clause-accepted c =
    ap is_ok (accepts c.args.state.now (shown c.args.line.now) c.requires.stands.1.1.mode c.requires.may c.requires.range ∙ begun_by c.args.state.now (shown c.args.line.now) (event_of c.args.heard) c.requires.brings)

pub returns-clause-turn : goal.returns-clause-turn
returns-clause-turn c = λ stage ids number stands.
    let kept = c.hear.ensures.settings in
    served_turn ids c.args.events.now c.args.state.now stage number (shown c.args.line.now) (event_of c.args.heard) c.requires.may c.requires.range c.requires.brings c.in-Some.hub c.hear.new.self c.go_on.new.self
    (subst (λ (o : Option hubs.Seen). Stands o ids c.args.events.now c.args.state.now stage) c.in-Some.is stands)
    c.if-events-ge-MOST_EVENTS.false
    (record { tick = kept.tick; link = kept.link; calls = c.in_ok-hear.ensures.calls; stands = λ channels s. (c.in_ok-hear.ensures.stands channels s).1 })
    c.go_on.ensures.goes_on
