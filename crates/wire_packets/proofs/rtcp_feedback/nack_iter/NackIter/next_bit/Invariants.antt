use Rattle.std.proofs.Common.{◌≡◌, ◌-◌}
use Rattle.wire_packets.specs.rtcp_feedback.{numbers_from}
use Rattle.wire_packets.proofs.rtcp_feedback.nack_iter.NackIter.next_bit.Given as goal

-- the bits that were passed name nothing
abbrev pub invariant-loop-self : goal.invariant-loop-self
invariant-loop-self l =
    numbers_from l.fn.self.pid l.fn.self.blp l.fn.self.bit l.fn.self.words.now ≡ numbers_from l.self.pid l.self.blp l.self.bit l.self.words.now

abbrev pub decreases-loop-self : goal.decreases-loop-self
decreases-loop-self l = 17 - l.self.bit
