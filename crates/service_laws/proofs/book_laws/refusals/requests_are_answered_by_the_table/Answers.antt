use Rattle.rams_model.specs.declared.Note.TheVariants.{Accept, Update, Again}
use Rattle.service_laws.specs.book_laws.Refusals.{table, Applies}
use Rattle.service_laws.proofs.book_laws.Moments.{legal_moment}
use Rattle.service_laws.proofs.book_laws.FirstLines.{one_first}
use Rattle.service_laws.proofs.book_laws.RequestAnswers.{by_table, answered_exactly}
use Rattle.service_laws.proofs.book_laws.refusals.requests_are_answered_by_the_table.Goals as goal

pub returns-clause-exactly : goal.returns-clause-exactly
returns-clause-exactly c = answered_exactly

pub returns-clause-accepts : goal.returns-clause-accepts
returns-clause-accepts c s k first rate join packet before m = by_table s k before (Accept k first rate join) (legal_moment s _ m).0

pub returns-clause-updates : goal.returns-clause-updates
returns-clause-updates c s k rate join packet before m = by_table s k before (Update k rate join) (legal_moment s _ m).0

pub returns-clause-agains : goal.returns-clause-agains
returns-clause-agains c s k packet before m = by_table s k before (Again k) (legal_moment s _ m).0

pub returns-clause-first : goal.returns-clause-first
returns-clause-first c s k history request one other f g = one_first (Applies s k history request) table one other f g
