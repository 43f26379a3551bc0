use Rattle.trace_loop.proofs.journal_book.Served.{served_so, front_so, head_so}
use Rattle.trace_loop.proofs.journal_book.laws.sink_and_wire_agree.Goals as goal

pub returns-clause-whole : goal.returns-clause-whole
returns-clause-whole c = served_so

pub returns-clause-front : goal.returns-clause-front
returns-clause-front c = front_so

pub returns-clause-head : goal.returns-clause-head
returns-clause-head c = head_so
