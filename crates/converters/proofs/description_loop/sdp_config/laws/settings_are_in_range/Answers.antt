use Rattle.converters.proofs.description_loop.sdp_config.InRange.{in_range}
use Rattle.converters.proofs.description_loop.sdp_config.laws.settings_are_in_range.Goals as goal

pub returns : goal.returns
returns c = in_range
