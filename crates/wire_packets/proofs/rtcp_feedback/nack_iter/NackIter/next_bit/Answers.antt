use Rattle.std.proofs.Common.{◌∙◌}
use Rattle.wire_packets.proofs.rtcp_feedback.NumberSteps.{bit_set, bit_clear}
use Rattle.wire_packets.proofs.rtcp_feedback.nack_iter.NackIter.next_bit.Goals as goal

pub returns-then-self-bit-eq1 : goal.returns-then-self-bit-eq1
returns-then-self-bit-eq1 c =
    c.loop-self.invariant ∙ bit_set c.loop-self.self.pid c.loop-self.self.blp c.loop-self.self.bit c.loop-self.self.words.now c.loop-self-test.true c.if-self-bit-eq1.true

pub loop-self-preserved : goal.loop-self-preserved
loop-self-preserved c =
    c.loop-self.invariant ∙ bit_clear c.loop-self.self.pid c.loop-self.self.blp c.loop-self.self.bit c.loop-self.self.words.now c.loop-self-test.true c.if-self-bit-eq1.false
