use Rattle.std.proofs.Common.{Option, Bool, subst}
use Rattle.meet_loop.specs.world_net.{Seen}
use Rattle.meet_loop.specs.{Happens, Stands}
use Rattle.meet_loop.proofs.Turning.{few_came, served_turn}
use Rattle.meet_loop.proofs.meeting.serve.Goals as goal

pub happen-requires : goal.happen-requires
happen-requires c = few_came c.args.world.now c.in-Some.world c.args.events.now c.requires.stands.0 c.requires.stands.1 c.in-Some.is c.if-events-ge-MOST_WORLD_EVENTS.false

pub returns : goal.returns
returns c = λ stage number stands begun.
    let notes = c.happen.new.notes.items in
    served_turn c.in-Some.world c.happen.new.world c.args.events.now c.args.event.now notes c.if-events-ge-MOST_WORLD_EVENTS.false c.happen.ensures.few
    (λ w s. subst (λ (fits : Bool). Happens c.args.event.now w c.happen.new.world notes fits) c.if-not-branch.false (c.in_ok-happen.ensures.said w s)) stage number
    (subst (λ (o : Option Seen). Stands o c.args.events.now stage.reached stage) c.in-Some.is stands) begun
