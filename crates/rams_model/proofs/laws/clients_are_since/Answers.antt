use Rattle.rams_model.specs.Service.{known, opened, is_among, is_pending}
use Rattle.rams_model.specs.Laws.{makes_known, ends_known, is_accept_of, is_end_of, is_queued, ends_pending}
use Rattle.rams_model.proofs.Since.{stands_both, known_stands, opened_stands, pending_stands}
use Rattle.rams_model.proofs.laws.clients_are_since.Goals as goal

pub returns-clause-known : goal.returns-clause-known
returns-clause-known c k history = stands_both (makes_known k) (ends_known k) (λ h. is_among k (known h)) history (known_stands k)

pub returns-clause-opened : goal.returns-clause-opened
returns-clause-opened c k history = stands_both (is_accept_of k) (is_end_of k) (λ h. is_among k (opened h)) history (opened_stands k)

pub returns-clause-pending : goal.returns-clause-pending
returns-clause-pending c k n history = stands_both (is_queued k n) (ends_pending k n) (λ h. is_pending k n h) history (pending_stands k n)
