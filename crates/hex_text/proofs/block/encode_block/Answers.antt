use Rattle.hex_text.proofs.Lanes.{digits_paired}
use Rattle.hex_text.proofs.block.encode_block.Goals as goal

pub returns : goal.returns
returns c =
    rw (c.copy_from_slice.ensures.after, c.copy_from_slice-2.ensures.after)
    (digits_paired c.args.bytes.now _ _ c.requires.bytes c.digits_of-highs.ensures c.digits_of-lows.ensures)
