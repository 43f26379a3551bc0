use Rattle.std.proofs.Common.{arith, sym, ◌∙◌}
use Rattle.rams_model.specs.Service.{settings}
use Rattle.channel_config.proofs.Laws.{lawful_from_tests}
use Rattle.channel_config.proofs.config.Config.check.Goals as goal

pub invariant_of-result : goal.invariant_of-result
invariant_of-result c =
    let ranges = sym c.is_in_range.ensures ∙ c.if-not-is_in_range.false in
    lawful_from_tests (settings c.args.c c.args.tick_ms) ranges c.if-c.false (omega arith) (omega arith)
