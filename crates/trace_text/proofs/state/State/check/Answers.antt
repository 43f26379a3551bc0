use Rattle.std.proofs.Common.{Bool, Ok, Err, Result, sym, ap, ◌∙◌, if◌then◌else◌}
use Rattle.rams_model.specs.declared.{ConfigFault.ConfigFault, LineFault.LineFault, LineFault.TheVariants.Twice}
use Rattle.rams_model.specs.Service.{Settings, settings}
use Rattle.trace_text.proofs.Checks.{settled_range, settled_rule, settled_ok}
use Rattle.trace_text.proofs.state.State.check.Goals as goal

pub returns-in-Err-Range-clause-settled : goal.returns-in-Err-Range-clause-settled
returns-in-Err-Range-clause-settled c =
    settled_range c.args.self.now (settings c.args.channel.now c.args.tick_ms) c.has-twice.result c.requires c.has-twice.ensures c.check.result c.check.ensures
    (c.in-Err-Range.is ∙ ap (λ (f : ConfigFault). Err f) c.in-Err-Range.field-0-is)

pub returns-in-Err-Rule-clause-settled : goal.returns-in-Err-Rule-clause-settled
returns-in-Err-Rule-clause-settled c =
    ap (λ (f : LineFault). Err f) c.first_of.ensures
    ∙ settled_rule c.args.self.now (settings c.args.channel.now c.args.tick_ms) c.has-twice.result c.requires c.has-twice.ensures c.check.result c.check.ensures c.in-Err-Rule.rule
    (c.in-Err-Rule.is ∙ ap (λ (f : ConfigFault). Err f) c.in-Err-Rule.field-0-is)

-- what settings that pass are answered with
abbrev unless : Settings → Bool → Result Settings LineFault
unless s twice = if twice then Err Twice else Ok s

pub returns-then-twice-clause-settled : goal.returns-then-twice-clause-settled
returns-then-twice-clause-settled c =
    sym (ap (unless c.in-Ok.config) c.if-twice.true)
    ∙ settled_ok c.args.self.now (settings c.args.channel.now c.args.tick_ms) c.has-twice.result c.requires c.has-twice.ensures c.check.result c.check.ensures c.in-Ok.config c.in-Ok.is

pub returns-else-twice-clause-settled : goal.returns-else-twice-clause-settled
returns-else-twice-clause-settled c =
    sym (ap (unless c.in-Ok.config) c.if-twice.false)
    ∙ settled_ok c.args.self.now (settings c.args.channel.now c.args.tick_ms) c.has-twice.result c.requires c.has-twice.ensures c.check.result c.check.ensures c.in-Ok.config c.in-Ok.is
