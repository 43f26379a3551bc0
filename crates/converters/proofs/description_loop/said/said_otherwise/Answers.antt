use Rattle.std.proofs.Common.{refl}
use Rattle.trace_lines.specs.{shown}
use Rattle.converters.proofs.description_loop.NextLines.{of_no_head}
use Rattle.converters.proofs.description_loop.said.said_otherwise.Goals as goal

pub returns-in_default : goal.returns-in_default
returns-in_default c = λ now other.
    (shown c.args.line, refl, of_no_head c.args.line other (λ version tick link is. c.in_default.not-Head version tick link is) (λ is. c.in_default.not-End is))
