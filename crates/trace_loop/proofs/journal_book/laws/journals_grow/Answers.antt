use Rattle.trace_loop.proofs.journal_book.Served.{journal_grows}
use Rattle.trace_loop.proofs.journal_book.laws.journals_grow.Goals as goal

pub returns : goal.returns
returns c = journal_grows
