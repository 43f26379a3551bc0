use Rattle.std.proofs.Common.{decimal, ◌∙◌}
use Rattle.converters.proofs.description_loop.sdp_config.Behind.{none_behind, rest_behind}
use Rattle.converters.proofs.description_loop.sdp_config.attribute.behind_number.Goals as goal

pub returns-in_err-behind : goal.returns-in_err-behind
returns-in_err-behind c =
    none_behind c.args.text.now (decimal c.args.format) c.args.line.now c.from_residual.result c.in_err-behind.ensures c.from_residual.ensures

pub returns : goal.returns
returns c =
    rest_behind c.args.text.now (decimal c.args.format) c.as_bytes.result.now c.args.line.now c.in_ok-behind.field-0.now c.behind-2.result
    (c.as_bytes.ensures.value ∙ c.format.ensures.text) c.in_ok-behind.ensures c.behind-2.ensures
