use Rattle.converters.proofs.description_loop.sdp_config.LongTexts.{long_texts}
use Rattle.converters.proofs.description_loop.sdp_config.laws.long_texts_are_refused.Goals as goal

pub returns : goal.returns
returns c = long_texts
