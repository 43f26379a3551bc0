use Rattle.std.proofs.Common.{◌++◌, arith}
use Rattle.service_laws.proofs.book_laws.Moments.{legal_moment}
use Rattle.service_laws.proofs.book_laws.Windows.{client_over_ticks, channel_over_ticks}
use Rattle.service_laws.proofs.book_laws.MostRates.{gains_within}
use Rattle.service_laws.proofs.book_laws.InTicks.{gains_at_rate}
use Rattle.service_laws.proofs.book_laws.budgets.budgets_are_kept_over_ticks.Goals as goal

pub returns-clause-clients : goal.returns-clause-clients
returns-clause-clients c s k stretch before m begins = omega (arith, client_over_ticks s k stretch before (legal_moment s (stretch ++ before) m) begins)

pub returns-clause-rates : goal.returns-clause-rates
returns-clause-rates c s k rate stretch before m begins each =
    omega (arith, client_over_ticks s k stretch before (legal_moment s (stretch ++ before) m) begins, gains_at_rate s k rate stretch before each)

pub returns-clause-most : goal.returns-clause-most
returns-clause-most c s k stretch before m begins =
    let legal = legal_moment s (stretch ++ before) m in omega (arith, client_over_ticks s k stretch before legal begins, gains_within s k stretch before legal)

pub returns-clause-channels : goal.returns-clause-channels
returns-clause-channels c s stretch before m begins = omega (arith, channel_over_ticks s stretch before (legal_moment s (stretch ++ before) m) begins)
