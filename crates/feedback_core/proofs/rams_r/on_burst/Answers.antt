-- The same again, or another rate.
use Rattle.std.proofs.Common.{◌∙◌, ap, not}
use Rattle.feedback_core.proofs.Verdicts.{again_unnamed, again_same, changes_named}
use Rattle.feedback_core.proofs.rams_r.on_burst.Goals as goal

pub returns-then-is_none-clause-answers : goal.returns-then-is_none-clause-answers
returns-then-is_none-clause-answers c = λ b same before history has w.
    let queue = c.args.desk.now.queue.now in
    again_unnamed c.args.desk.now.config.now c.args.desk.now.cache.now.held before history queue c.args.desk.now.visitor c.args.bps b (c.is_none.ensures ∙ ap not c.if-is_none.true) w

pub returns-then-rate-current-clause-answers : goal.returns-then-rate-current-clause-answers
returns-then-rate-current-clause-answers c = λ b same before history has w.
    let queue = c.args.desk.now.queue.now in
    again_same c.args.desk.now.config.now c.args.desk.now.cache.now.held before history queue c.args.desk.now.visitor c.rate_of-rate.result c.tick_ms.result c.channel.result.now c.args.bps b c.args.current.now
    c.tick_ms.ensures.value c.channel.ensures.value c.rate_of-rate.ensures same c.if-rate-current.true w

pub returns-clause-answers : goal.returns-clause-answers
returns-clause-answers c = λ b same before history has w.
    let queue = c.args.desk.now.queue.now in
    changes_named c.args.desk.now.config.now c.args.desk.now.cache.now.held before history queue c.args.desk.now.visitor c.change.new.desk.visitor c.rate_of-rate.result c.tick_ms.result c.channel.result.now
    c.args.bps b c.args.current.now c.change.result c.tick_ms.ensures.value c.channel.ensures.value c.rate_of-rate.ensures (c.is_none.ensures ∙ ap not c.if-is_none.false) same
    c.if-rate-current.false (c.change.ensures.answers b same before history has w)
