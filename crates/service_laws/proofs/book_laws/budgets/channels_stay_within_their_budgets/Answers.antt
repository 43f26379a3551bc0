use Rattle.std.proofs.Common.{◌∷◌, ◌++◌, arith}
use Rattle.rams_model.specs.Service.{tick, began}
use Rattle.service_laws.proofs.book_laws.Moments.{legal_moment}
use Rattle.service_laws.proofs.book_laws.Windows.{channel_in_tick}
use Rattle.service_laws.proofs.book_laws.InTicks.{only_ticks}
use Rattle.service_laws.proofs.book_laws.budgets.channels_stay_within_their_budgets.Goals as goal

pub returns-clause-budget : goal.returns-clause-budget
returns-clause-budget c s now before m none = omega (arith, channel_in_tick s now before (legal_moment s (now ++ began tick ∷ before) m) none)

pub returns-clause-most : goal.returns-clause-most
returns-clause-most c s now before m none = omega (arith, channel_in_tick s now before (legal_moment s (now ++ began tick ∷ before) m) none)

pub returns-clause-ticks : goal.returns-clause-ticks
returns-clause-ticks c s heard now before m other none = only_ticks s heard now before (legal_moment s (now ++ began heard ∷ before) m) other none
