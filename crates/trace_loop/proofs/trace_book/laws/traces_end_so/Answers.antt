use Rattle.trace_loop.proofs.trace_book.Served.{ends_so}
use Rattle.trace_loop.proofs.trace_book.laws.traces_end_so.Goals as goal

pub returns : goal.returns
returns c trace = ends_so trace (c.traces_are_served_so.ensures trace)
