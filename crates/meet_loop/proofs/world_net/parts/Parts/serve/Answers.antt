use Rattle.meet_loop.specs.world_net.{kept_of}
use Rattle.server_hub.specs.{event_of, told}
use Rattle.meet_loop.proofs.world_net.Turned.{ok_both}
use Rattle.meet_loop.proofs.world_net.Steps.{served, as_goes}
use Rattle.meet_loop.proofs.world_net.parts.Parts.serve.Goals as goal

pub returns-clause-goes : goal.returns-clause-goes
returns-clause-goes c = λ w k.
    ok_both c.tell.result c.tell.ensures.notes c.tell.ensures.parcels (λ said sent.
    as_goes _ _ _ _
    (served (event_of c.args.heard) w (kept_of c.args.self.now) c.hear.new.self (told c.in_ok-answer.answer) _ _ _ _ k (c.in_ok-answer.ensures.stands w.channels k.hub) c.hear.ensures.settings
    c.hear.ensures.lawful c.in_ok-keep_live.ensures said sent))
