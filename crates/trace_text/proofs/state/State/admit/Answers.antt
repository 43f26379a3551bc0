use Rattle.std.proofs.Common.{Option, sym, ap, ◌∙◌}
use Rattle.rams_model.specs.Service.{settings}
use Rattle.rams_model.specs.Texts.{Head, Reached, tick_of}
use Rattle.trace_text.proofs.Checks.{settled_same}
use Rattle.trace_text.proofs.state.State.admit.Goals as goal

pub returns-clause-config : goal.returns-clause-config
returns-clause-config c =
    settled_same c.args.self.now (settings c.args.channel.now c.head.inside.tick_ms) c.in_ok-config.config (sym c.check.ensures.settled ∙ c.in_ok-config.was)
    ∙ ap (λ (h : Head). settings c.args.channel.now h.tick) c.head.view_is
    ∙ ap (λ (o : Option Head). settings c.args.channel.now (tick_of o)) (sym c.in-Some.is)
    ∙ ap (λ (r : Reached). settings c.args.channel.now (tick_of r.head)) c.self.view_is
