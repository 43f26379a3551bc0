use Rattle.trace_loop.proofs.trace_book.Served.{is_served}
use Rattle.trace_loop.proofs.trace_book.laws.traces_are_served_by_their_lines.Goals as goal

pub returns : goal.returns
returns c trace = is_served c.channels_get_their_events.ensures trace (c.traces_are_served_so.ensures trace)
