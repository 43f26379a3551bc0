use Rattle.std.proofs.Common.{◌+◌, ◌-◌, ◌*◌, drop, arith}
use Rattle.hex_text.proofs.Reading.{bytes_part}
use Rattle.hex_text.proofs.Values.{lower_front, lower_rest}
use Rattle.hex_text.proofs.decode.decode_blocks.Goals as goal

pub parts-preserved : goal.parts-preserved
parts-preserved c = bytes_part c.args.digits.now c.parts.out _ c.parts.k _ _ (omega arith) (omega arith) (omega arith) (omega arith) c.decode_block.ensures c.parts.invariant

pub decode_block-requires-clause-lower : goal.decode_block-requires-clause-lower
decode_block-requires-clause-lower c = lower_front (32 * c.parts.k + 32 - 32 * c.parts.k) (drop (32 * c.parts.k) c.args.digits.now) (lower_rest (32 * c.parts.k) c.args.digits.now c.requires.lower)
