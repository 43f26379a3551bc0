use Rattle.std.proofs.Common.{Result, sym, subst}
use Rattle.rams_model.specs.declared.LineFault.{LineFault}
use Rattle.rams_model.specs.Texts.{TraceLine, Reached}
use Rattle.converters.specs.description_loop.{SaysOf}
use Rattle.converters.proofs.description_loop.said.judge_line.Goals as goal

pub returns-in-Ok : goal.returns-in-Ok
returns-in-Ok c =
    subst (λ (o : Result (TraceLine × Reached) LineFault). SaysOf o c.judge.new.self c.said_so.result) (sym c.in-Ok.ensures.ok) (c.said_so.ensures c.judge.new.self c.in-Ok.ensures.settled)
