use Rattle.hex_text.proofs.Extremes.{none_outside}
use Rattle.hex_text.proofs.test.is_within.Goals as goal

pub returns : goal.returns
returns c = none_outside _ _ _ c.requires.0 c.requires.1.0 c.requires.1.1
