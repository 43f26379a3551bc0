use Rattle.std.proofs.Common.{subst}
use Rattle.trace_loop.specs.trace_book.trace_serving.{turn}
use Rattle.trace_loop.specs.trace_book.{run}
use Rattle.trace_loop.specs.declared.head_loop.head.HeadLine.{HeadLine}
use Rattle.trace_loop.specs.head_loop.{Took}
use Rattle.trace_loop.proofs.head_loop.head.take_line.Goals as goal

pub returns-in_ok-push-in-GoesOn-clause-took : goal.returns-in_ok-push-in-GoesOn-clause-took
returns-in_ok-push-in-GoesOn-clause-took c = λ stage number opened.
    let o = c.judge_line.new.opening in
    subst (λ (d : HeadLine). Took stage (turn run stage number c.args.line.now) o.hub o.ids.items o.state number d) c.in-GoesOn.is (c.in_ok-judge_line.ensures.took stage number opened)

pub returns-in-Ends-clause-took : goal.returns-in-Ends-clause-took
returns-in-Ends-clause-took c = λ stage number opened.
    let o = c.judge_line.new.opening in
    subst (λ (d : HeadLine). Took stage (turn run stage number c.args.line.now) o.hub o.ids.items o.state number d) c.in-Ends.is (c.in_ok-judge_line.ensures.took stage number opened)

pub returns-in-Refused-clause-took : goal.returns-in-Refused-clause-took
returns-in-Refused-clause-took c = λ stage number opened.
    let o = c.judge_line.new.opening in
    subst (λ (d : HeadLine). Took stage (turn run stage number c.args.line.now) o.hub o.ids.items o.state number d) c.in-Refused.is (c.in_ok-judge_line.ensures.took stage number opened)
