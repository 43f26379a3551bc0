use Rattle.std.proofs.Common.{◌∙◌, arith}
use Rattle.service_laws.proofs.book_laws.Moments.{legal_moment}
use Rattle.service_laws.proofs.book_laws.Reserved.{fits, within_share, counts_once}
use Rattle.service_laws.proofs.book_laws.budgets.reserves_fit_the_share.Goals as goal
use Rattle.rams_model.proofs.LastAccept.{opened_open}

pub returns-clause-fit : goal.returns-clause-fit
returns-clause-fit c s history m =
    let legal = legal_moment s history m in (omega (arith, within_share s history legal), λ k open'. omega (arith, fits s history legal k (opened_open s k history ∙ open')))

pub returns-clause-once : goal.returns-clause-once
returns-clause-once c = counts_once
