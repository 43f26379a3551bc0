use Rattle.hex_text.proofs.Values.{values_computed}
use Rattle.hex_text.proofs.block.values_of.Goals as goal

pub returns : goal.returns
returns c = values_computed 32 c.args.digits c.fits-digits.0 c.requires
