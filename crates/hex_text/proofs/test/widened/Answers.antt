use Rattle.std.proofs.Common.{◌∙◌, sym}
use Rattle.hex_text.proofs.Extremes.{length-greater, length-less, length-lesser, more_within}
use Rattle.hex_text.proofs.test.widened.Goals as goal

pub returns-clause-lanes : goal.returns-clause-lanes
returns-clause-lanes c =
    let long = c.fits-bytes.0 in (
      length-lesser _ _ (c.requires.0 ∙ sym long) ∙ c.requires.0,
      (
        length-greater _ _ (c.requires.1.0 ∙ sym long) ∙ c.requires.1.0,
        length-greater _ _ (c.requires.1.1 ∙ sym (length-less 32 c.args.bytes long)) ∙ c.requires.1.1,
      ),
    )

pub returns-clause-digits : goal.returns-clause-digits
returns-clause-digits c = more_within _ _ _ c.args.bytes c.requires.0 c.requires.1.0 c.requires.1.1 c.fits-bytes.0 c.fits-bytes.1
