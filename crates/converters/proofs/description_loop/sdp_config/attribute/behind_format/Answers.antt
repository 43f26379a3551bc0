use Rattle.std.proofs.Common.{◌++◌, codes, decimal, refl}
use Rattle.converters.proofs.description_loop.sdp_config.Behind.{none_behind, rest_behind}
use Rattle.converters.proofs.description_loop.sdp_config.attribute.behind_format.Goals as goal

pub returns-in_err-behind_number : goal.returns-in_err-behind_number
returns-in_err-behind_number c =
    none_behind (c.args.text.now ++ decimal c.args.format) (codes " ") c.args.line.now c.from_residual.result c.in_err-behind_number.ensures c.from_residual.ensures

pub returns : goal.returns
returns c =
    rest_behind (c.args.text.now ++ decimal c.args.format) (codes " ") (codes " ") c.args.line.now c.in_ok-behind_number.field-0.now c.behind.result
    refl c.in_ok-behind_number.ensures c.behind.ensures
