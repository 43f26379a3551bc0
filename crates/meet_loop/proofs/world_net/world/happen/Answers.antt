use Rattle.meet_loop.proofs.world_net.Steps.{are_few}
use Rattle.meet_loop.proofs.world_net.world.happen.Goals as goal

pub returns-in-Tune-clause-few : goal.returns-in-Tune-clause-few
returns-in-Tune-clause-few c = λ n f. are_few n _ (c.tune.ensures.few n f)

pub returns-in-Ask-clause-few : goal.returns-in-Ask-clause-few
returns-in-Ask-clause-few c = λ n f. are_few n _ (c.ask.ensures.few n f)

pub returns-in-Drop-clause-few : goal.returns-in-Drop-clause-few
returns-in-Drop-clause-few c = λ n f. are_few n _ (c.leave.ensures.few n f)
