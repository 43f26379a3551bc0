use Rattle.hex_text.proofs.Values.{pairs_joined}
use Rattle.hex_text.proofs.block.joined.Goals as goal

pub returns : goal.returns
returns c = pairs_joined 16 c.args.values c.fits-values.0 c.requires
