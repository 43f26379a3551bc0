use Rattle.std.proofs.Common.{arith}
use Rattle.std.proofs.lemmas.Bool.Decides.{nat_tests}
use Rattle.wire_packets.proofs.rtcp_feedback.NumberSteps.{all_numbers}
use Rattle.wire_packets.proofs.rtcp_feedback.nack_reading.nack_numbers.Goals as goal

pub returns-clause-ok : goal.returns-clause-ok
returns-clause-ok c = all_numbers c.args.fci.now (grind (arith, nat_tests)) c.if-fci-ne0.false
