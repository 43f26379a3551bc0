use Rattle.rams_model.specs.declared.Event.TheVariants.{Feedback}
use Rattle.server_hub.proofs.Stepping.{step_at}
use Rattle.server_hub.proofs.steps.feedback_at.Goals as goal

pub returns-clause-steps : goal.returns-clause-steps
returns-clause-steps c =
    step_at (Feedback c.args.client c.args.bytes.now) c.args.place c.args.cores.now c.index-cores-place.result c.feedback.new.self c.feedback.result c.requires.place c.feedback.ensures.stands c.feedback.ensures.settings
