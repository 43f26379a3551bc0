-- Numbers that are still to come.
use Rattle.std.specs.Prelude.{ℕ, List}
use Rattle.wire_packets.specs.declared.rtcp_feedback.nack_iter.NackIter.{NackIter}
use Rattle.wire_packets.specs.rtcp_feedback.Numbers.{numbers_from}

abbrev pub numbers_left : NackIter → List ℕ
numbers_left it = numbers_from it.pid it.blp it.bit it.words.now
