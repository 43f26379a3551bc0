use Rattle.rams_model.specs.Service.{has_open}
use Rattle.rams_model.specs.Laws.{is_accept_of, is_end_of}
use Rattle.rams_model.proofs.Since.{stands_both}
use Rattle.rams_model.proofs.LastStop.{last_stop}
use Rattle.rams_model.proofs.LastAccept.{last_accept, open_stands}
use Rattle.rams_model.proofs.laws.bursts_are_since.Goals as goal

pub returns-clause-accepted : goal.returns-clause-accepted
returns-clause-accepted c s k first rate join packet later before none = last_accept s k first rate join packet later before none

pub returns-clause-opened : goal.returns-clause-opened
returns-clause-opened c s k history = stands_both (is_accept_of k) (is_end_of k) (λ h. has_open s k h) history (open_stands s k)

pub returns-clause-stop : goal.returns-clause-stop
returns-clause-stop c s k n history accept = last_stop s k n history accept
