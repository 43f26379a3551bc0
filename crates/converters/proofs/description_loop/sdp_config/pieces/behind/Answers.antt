use Rattle.converters.proofs.description_loop.sdp_config.Behind.{stripped}
use Rattle.converters.proofs.description_loop.sdp_config.pieces.behind.Goals as goal

pub returns : goal.returns
returns c = stripped c.args.text.now c.args.line.now c.strip_prefix.result c.strip_prefix.ensures.cases
