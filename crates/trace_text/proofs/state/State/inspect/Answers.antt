use Rattle.rams_model.specs.Texts.{tick_of}
use Rattle.trace_lines.specs.{shown}
use Rattle.trace_text.proofs.Judging.{judges, refusals}
use Rattle.trace_text.proofs.state.State.inspect.Goals as goal

pub returns-in-Ok-clause-err : goal.returns-in-Ok-clause-err
returns-in-Ok-clause-err c = refusals c.args.self.now c.args.line.now (shown c.in-Ok.read) c.examine.result c.in-Ok.ensures.line c.examine.ensures.err

pub returns-in-Ok-clause-ok : goal.returns-in-Ok-clause-ok
returns-in-Ok-clause-ok c =
    judges c.args.self.now c.args.line.now (tick_of c.args.self.now.head) c.in-Ok.read c.examine.result c.in-Ok.ensures.line c.examine.ensures.ok c.examine.ensures.judged
