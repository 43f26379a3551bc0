use Rattle.std.proofs.Common.{arith}
use Rattle.std.proofs.lemmas.Bool.Decides.{nat_tests}
use Rattle.wire_packets.proofs.rams_tlv.Reading.{fault_in_front, fault_behind, no_fault}
use Rattle.wire_packets.proofs.rams_tlv.tlvs.Tlvs.new.Goals as goal

pub returns-in-Some-clause-err : goal.returns-in-Some-clause-err
returns-in-Some-clause-err c =
    fault_in_front c.args.message c.loop-rest.rest.now c.args.bytes.now c.in-Some.fault (grind (arith, nat_tests)) (cc) c.loop-rest.invariant

pub loop-rest-preserved : goal.loop-rest-preserved
loop-rest-preserved c =
    rw c.cut.ensures.rest (fault_behind c.args.message c.loop-rest.rest.now c.args.bytes.now (grind (arith, nat_tests)) (cc) c.loop-rest.invariant)

pub invariant_of-result : goal.invariant_of-result
invariant_of-result c = record { lawful = no_fault c.args.message c.loop-rest.rest.now c.args.bytes.now (grind (arith, nat_tests)) c.loop-rest.invariant }
