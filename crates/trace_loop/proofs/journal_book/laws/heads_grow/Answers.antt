use Rattle.trace_loop.proofs.journal_book.Heads.{heads_grow, heads_end}
use Rattle.trace_loop.proofs.journal_book.laws.heads_grow.Goals as goal

pub returns-clause-grow : goal.returns-clause-grow
returns-clause-grow c = heads_grow

pub returns-clause-end : goal.returns-clause-end
returns-clause-end c = heads_end
