use Rattle.std.proofs.Common.{arith}
use Rattle.hex_text.proofs.Reading.{digits_more, bytes_more, bytes_all}
use Rattle.hex_text.proofs.decode.decode_pairs.Goals as goal

pub pairs-preserved : goal.pairs-preserved
pairs-preserved c = record {
  digits = digits_more _ c.pairs.i _ _ _ (omega arith) c.value-high.ensures c.value-low.ensures c.pairs.invariant.digits;
  bytes = bytes_more _ _ c.pairs.i _ _ (omega arith) (omega arith) c.value-high.ensures c.value-low.ensures c.pairs.invariant.bytes;
}

pub returns-clause-bytes : goal.returns-clause-bytes
returns-clause-bytes c = bytes_all _ _ c.pairs.i (omega arith) (omega arith) c.pairs.invariant.bytes
