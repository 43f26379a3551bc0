use Rattle.std.proofs.Common.{◌∙◌, arith}
use Rattle.std.proofs.lemmas.Bool.Decides.{nat_tests}
use Rattle.wire_packets.proofs.rtcp_frame.PacketSteps.{fault_in_front, fault_behind, no_fault, all_packets, framed_of}
use Rattle.wire_packets.proofs.rtcp_frame.compound.packets.Goals as goal

pub returns-in-Some-clause-err : goal.returns-in-Some-clause-err
returns-in-Some-clause-err c =
    framed_of c.args.bytes.now (grind (arith, nat_tests))
    ∙ fault_in_front c.loop-rest.rest.now c.args.bytes.now c.in-Some.fault (grind (arith, nat_tests)) (cc) c.loop-rest.invariant

pub loop-rest-preserved : goal.loop-rest-preserved
loop-rest-preserved c =
    rw c.cut.ensures.rest (fault_behind c.loop-rest.rest.now c.args.bytes.now (grind (arith, nat_tests)) (cc) c.loop-rest.invariant)

pub invariant_of-result : goal.invariant_of-result
invariant_of-result c = record { whole = no_fault c.loop-rest.rest.now c.args.bytes.now (grind (arith, nat_tests)) c.loop-rest.invariant }

pub returns-clause-ok : goal.returns-clause-ok
returns-clause-ok c =
    framed_of c.args.bytes.now (grind (arith, nat_tests))
    ∙ all_packets c.args.bytes.now (no_fault c.loop-rest.rest.now c.args.bytes.now (grind (arith, nat_tests)) c.loop-rest.invariant)
