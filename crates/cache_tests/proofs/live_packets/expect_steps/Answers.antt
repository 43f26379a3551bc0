use Rattle.std.proofs.Common.{◌+◌, arith}
use Rattle.cache_tests.proofs.live_packets.expect_steps.Goals as goal

pub loop-sequence-init : goal.loop-sequence-init
loop-sequence-init g c = λ most s. record { arrivals = s.arrivals; stands = s.stands; few = omega (arith, s.few) }

pub expect_packet-requires : goal.expect_packet-requires
expect_packet-requires g c =
    let s = c.loop-sequence.invariant c.requires.0 c.requires.1 in
    record { arrivals = s.arrivals; stands = s.stands; few = omega (arith, s.few, c.requires.2) }

pub loop-sequence-preserved : goal.loop-sequence-preserved
loop-sequence-preserved g c = λ most s.
    let next = c.in_ok-expect_packet.ensures (most + c.loop-sequence.sequence-index) (c.loop-sequence.invariant most s) in
    record { arrivals = next.arrivals; stands = next.stands; few = omega (arith, next.few) }
