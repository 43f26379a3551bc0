use Rattle.service_laws.proofs.book_laws.Quiet.Laws.{never_lost, keeps_join_times}
use Rattle.service_laws.proofs.book_laws.join_times.quiet_bursts_keep_their_join_times.Goals as goal

pub returns-clause-lost : goal.returns-clause-lost
returns-clause-lost c = never_lost

pub returns-clause-caught_up : goal.returns-clause-caught_up
returns-clause-caught_up c = keeps_join_times
