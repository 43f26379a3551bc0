use Rattle.service_laws.proofs.book_laws.Moments.{legal_moment}
use Rattle.service_laws.proofs.book_laws.NackTable.{nack_answer_true, foreign_true, nack_answered}
use Rattle.service_laws.proofs.book_laws.refusals.nacks_are_answered_by_the_table.Goals as goal

pub returns-clause-answers : goal.returns-clause-answers
returns-clause-answers c s note line packet before e m = nack_answer_true s note line packet before e (legal_moment s _ m).0

pub returns-clause-order : goal.returns-clause-order
returns-clause-order c = nack_answered

pub returns-clause-foreign : goal.returns-clause-foreign
returns-clause-foreign c s k packet before m = foreign_true s k before (legal_moment s _ m).0
