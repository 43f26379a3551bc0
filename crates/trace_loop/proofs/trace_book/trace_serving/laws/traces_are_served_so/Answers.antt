use Rattle.trace_loop.proofs.trace_book.trace_serving.Runs.{is_served_so}
use Rattle.trace_loop.proofs.trace_book.trace_serving.laws.traces_are_served_so.Goals as goal

pub returns : goal.returns
returns g c = is_served_so g.S.Serves.serving
