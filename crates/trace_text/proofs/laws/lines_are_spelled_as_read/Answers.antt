use Rattle.trace_text.proofs.Spelling.{read_is_spelled}
use Rattle.trace_text.proofs.laws.lines_are_spelled_as_read.Goals as goal

pub returns : goal.returns
returns c = read_is_spelled
