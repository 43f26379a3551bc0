use Rattle.std.proofs.Common.{Option, subst}
use Rattle.server_hub.specs.Seen.{Seen}
use Rattle.rams_replay.specs.{Stands}
use Rattle.rams_replay.proofs.Turning.{served_turn}
use Rattle.rams_replay.proofs.replay.serve.Goals as goal

pub returns : goal.returns
returns c = λ stage number stands.
    served_turn c.in-Some.hub c.answer.new.hub c.args.events.now _ _ c.if-events-ge-MOST_EVENTS.false c.in_ok-answer.ensures.counts c.in_ok-answer.ensures.tells stage number
    (subst (λ (o : Option Seen). Stands o c.args.events.now stage.reached stage) c.in-Some.is stands)
