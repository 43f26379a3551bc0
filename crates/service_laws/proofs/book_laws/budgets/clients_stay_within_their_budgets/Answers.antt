use Rattle.std.proofs.Common.{◌∷◌, ◌++◌, ap, arith}
use Rattle.rams_model.specs.Service.{tick, began}
use Rattle.service_laws.specs.book_laws.{may_be_sent}
use Rattle.service_laws.proofs.book_laws.Moments.{legal_moment}
use Rattle.service_laws.proofs.book_laws.Windows.{client_in_tick}
use Rattle.service_laws.proofs.book_laws.budgets.clients_stay_within_their_budgets.Goals as goal

pub returns-clause-budget : goal.returns-clause-budget
returns-clause-budget c s k now before m none = omega (arith, client_in_tick s k now before (legal_moment s (now ++ began tick ∷ before) m) none)

pub returns-clause-most : goal.returns-clause-most
returns-clause-most c s k now before m none =
    let within = client_in_tick s k now before (legal_moment s (now ++ began tick ∷ before) m) none in
    (λ b is. omega (arith, within, ap (may_be_sent s) is), λ is. omega (arith, within, ap (may_be_sent s) is))
