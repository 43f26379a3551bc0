use Rattle.std.proofs.Common.{◌≡◌, is_ok, true, length}
use Rattle.wire_packets.specs.rams_tlv.{tlvs_of, value_in}
use Rattle.wire_packets.proofs.rams_tlv.tlvs.Tlvs.first.Given as goal

-- nothing is wrong with what is left, and the first value there is that of all
abbrev pub invariant-loop-rest : goal.invariant-loop-rest
invariant-loop-rest l = record {
  lawful : is_ok (tlvs_of l.self.message l.rest) ≡ true;
  same : value_in l.kind (tlvs_of l.self.message l.rest) ≡ value_in l.kind (tlvs_of l.self.message l.self.bytes.now);
}

abbrev pub decreases-loop-rest : goal.decreases-loop-rest
decreases-loop-rest l = length l.rest
