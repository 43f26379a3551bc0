use Rattle.std.proofs.Common.{arith}
use Rattle.hex_text.proofs.Blocks.{block_more}
use Rattle.hex_text.proofs.encode.encode_all.Goals as goal

pub parts-preserved : goal.parts-preserved
parts-preserved c = block_more c.args.bytes.now c.parts.out _ c.parts.k _ _ (omega arith) (omega arith) (omega arith) c.encode_block.ensures c.parts.invariant
