use Rattle.std.proofs.Common.{refl}
use Rattle.converters.proofs.description_loop.sdp_config.Cuts.{bare_is}
use Rattle.converters.proofs.description_loop.sdp_config.lines.bare.Goals as goal

pub returns : goal.returns
returns c = rw c.unwrap_or.ensures (bare_is c.args.line.now c.strip_suffix.result c.args.line c.strip_suffix.ensures.cases refl)
