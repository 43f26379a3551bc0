use Rattle.trace_loop.proofs.journal_book.Heard.{ports_are_heard, other_ports_are_not}
use Rattle.trace_loop.proofs.journal_book.laws.ports_are_heard.Goals as goal

pub returns-clause-ports : goal.returns-clause-ports
returns-clause-ports c = ports_are_heard

pub returns-clause-others : goal.returns-clause-others
returns-clause-others c = other_ports_are_not
