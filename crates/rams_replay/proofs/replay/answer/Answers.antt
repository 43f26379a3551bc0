use Rattle.rams_replay.proofs.Telling.{hub_tells}
use Rattle.server_hub.specs.{event_of}
use Rattle.rams_replay.proofs.replay.answer.Goals as goal

pub returns-clause-tells : goal.returns-clause-tells
returns-clause-tells c = λ channels stands.
    hub_tells (event_of c.args.heard) channels c.hear.new.self c.in_ok-hear.field-0 (c.in_ok-hear.ensures.stands channels stands) c.hear.ensures.lawful
