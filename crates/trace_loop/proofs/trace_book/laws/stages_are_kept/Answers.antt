use Rattle.trace_loop.proofs.trace_book.Served.{stages_kept}
use Rattle.trace_loop.proofs.trace_book.laws.stages_are_kept.Goals as goal

pub returns-clause-opening : goal.returns-clause-opening
returns-clause-opening c = c.stages_are_kept.ensures.opening

pub returns-clause-kept : goal.returns-clause-kept
returns-clause-kept c = stages_kept c.stages_are_kept.ensures.kept
