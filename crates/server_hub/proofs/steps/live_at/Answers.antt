use Rattle.rams_model.specs.declared.Event.TheVariants.{Live}
use Rattle.server_hub.proofs.Stepping.{step_at}
use Rattle.server_hub.proofs.steps.live_at.Goals as goal

pub returns-clause-steps : goal.returns-clause-steps
returns-clause-steps c =
    step_at (Live c.args.bytes.now) c.args.place c.args.cores.now c.index-cores-place.result c.live.new.self c.live.result c.requires.place c.live.ensures.stands c.live.ensures.settings
