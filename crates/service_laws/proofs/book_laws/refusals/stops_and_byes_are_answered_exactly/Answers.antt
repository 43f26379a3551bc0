use Rattle.service_laws.proofs.book_laws.StopTable.{stop_answered, bye_answered}
use Rattle.service_laws.proofs.book_laws.refusals.stops_and_byes_are_answered_exactly.Goals as goal

pub returns-clause-stops : goal.returns-clause-stops
returns-clause-stops c = stop_answered

pub returns-clause-byes : goal.returns-clause-byes
returns-clause-byes c = bye_answered
