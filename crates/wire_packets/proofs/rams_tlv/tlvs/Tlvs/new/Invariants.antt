use Rattle.std.proofs.Common.{◌≡◌, length}
use Rattle.std.specs.Result.{result_err}
use Rattle.wire_packets.specs.rams_tlv.{tlvs_of}
use Rattle.wire_packets.proofs.rams_tlv.tlvs.Tlvs.new.Given as goal

-- the first fault of what is left is that of all
abbrev pub invariant-loop-rest : goal.invariant-loop-rest
invariant-loop-rest l = result_err (tlvs_of l.message l.rest) ≡ result_err (tlvs_of l.message l.bytes)

abbrev pub decreases-loop-rest : goal.decreases-loop-rest
decreases-loop-rest l = length l.rest
