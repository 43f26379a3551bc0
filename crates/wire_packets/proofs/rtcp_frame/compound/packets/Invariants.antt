use Rattle.std.proofs.Common.{◌≡◌, length}
use Rattle.std.specs.Result.{result_err}
use Rattle.wire_packets.specs.rtcp_frame.{packets_in}
use Rattle.wire_packets.proofs.rtcp_frame.compound.packets.Given as goal

-- the first fault of what is left is that of all
abbrev pub invariant-loop-rest : goal.invariant-loop-rest
invariant-loop-rest l = result_err (packets_in l.rest) ≡ result_err (packets_in l.bytes)

abbrev pub decreases-loop-rest : goal.decreases-loop-rest
decreases-loop-rest l = length l.rest
