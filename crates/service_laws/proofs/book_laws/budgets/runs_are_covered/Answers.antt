use Rattle.std.proofs.Common.{◌∷◌, ◌++◌, arith}
use Rattle.rams_model.specs.declared.Note.TheVariants.{Burst}
use Rattle.rams_model.specs.Service.{tick, began, noted}
use Rattle.service_laws.proofs.book_laws.Moments.{legal_moment}
use Rattle.service_laws.proofs.book_laws.InTicks.{runs_covered, run_covered, runs_first}
use Rattle.service_laws.proofs.book_laws.budgets.runs_are_covered.Goals as goal

pub returns-clause-covered : goal.returns-clause-covered
returns-clause-covered c s now before m only = omega (arith, runs_covered s now before (legal_moment s (now ++ began tick ∷ before) m) only)

pub returns-clause-each : goal.returns-clause-each
returns-clause-each c s k b now before m only is = omega (arith, run_covered s k b now before (legal_moment s (now ++ began tick ∷ before) m) only is)

pub returns-clause-first : goal.returns-clause-first
returns-clause-first c s client n sequence packet now before m none =
    runs_first s client n sequence packet now before (legal_moment s (noted (Burst client n sequence) packet ∷ now ++ began tick ∷ before) m) none
