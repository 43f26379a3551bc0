use Rattle.hex_text.proofs.Extremes.{digits_within, length-less}
use Rattle.hex_text.proofs.test.extremes_of.Goals as goal

pub returns-clause-lanes : goal.returns-clause-lanes
returns-clause-lanes c = (c.fits-bytes.0, (c.fits-bytes.0, length-less 32 c.args.bytes c.fits-bytes.0))

pub returns-clause-digits : goal.returns-clause-digits
returns-clause-digits c = digits_within 32 c.args.bytes c.fits-bytes.0 c.fits-bytes.1
