use Rattle.trace_loop.proofs.journal_book.Served.{runs_write_journals, journals_are_served}
use Rattle.trace_loop.proofs.journal_book.laws.runs_of_journals.Goals as goal

pub returns-clause-text : goal.returns-clause-text
returns-clause-text c = runs_write_journals

pub returns-clause-served : goal.returns-clause-served
returns-clause-served c = journals_are_served
