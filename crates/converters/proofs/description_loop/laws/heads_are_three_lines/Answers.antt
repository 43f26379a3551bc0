use Rattle.converters.proofs.description_loop.ReadHeads.{three_lines}
use Rattle.converters.proofs.description_loop.laws.heads_are_three_lines.Goals as goal

pub returns : goal.returns
returns c = three_lines
