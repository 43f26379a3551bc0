use Rattle.std.proofs.Common.{sym, subst}
use Rattle.meet_loop.specs.world_net.{Seen, CameAtMost}
use Rattle.meet_loop.proofs.world_net.world.World.step.Goals as goal

pub returns-in_err-happen-clause-few : goal.returns-in_err-happen-clause-few
returns-in_err-happen-clause-few c = λ n few. c.happen.ensures.few n (subst (λ (v : Seen). CameAtMost n v.kept) (sym c.self.view_is) few)

pub returns-clause-few : goal.returns-clause-few
returns-clause-few c = λ n few. c.happen.ensures.few n (subst (λ (v : Seen). CameAtMost n v.kept) (sym c.self.view_is) few)
