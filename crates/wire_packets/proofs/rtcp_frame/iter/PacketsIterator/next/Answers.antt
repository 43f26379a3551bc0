use Rattle.std.proofs.Common.{length, ap, arith, rules}
use Rattle.std.proofs.lemmas.Bool.Decides.{nat_tests}
use Rattle.wire_packets.specs.rtcp_frame.{shown_packet}
use Rattle.wire_packets.proofs.rtcp_frame.PacketSteps.{front_of, none_left, one_given}
use Rattle.wire_packets.proofs.rtcp_frame.iter.PacketsIterator.next.Goals as goal

pub returns-then-is_empty-clause-steps : goal.returns-then-is_empty-clause-steps
returns-then-is_empty-clause-steps c =
    let none = none_left c.args.self.now.bytes.now (grind (arith, nat_tests)) in
    (none, none)

pub cut-requires : goal.cut-requires
cut-requires c = (front_of c.args.self.now.bytes.now (grind (arith, nat_tests)) c.args.self.now.whole).fault

pub invariant_of-self : goal.invariant_of-self
invariant_of-self c = record { whole = rw c.cut.ensures.rest (front_of c.args.self.now.bytes.now (grind (arith, nat_tests)) c.args.self.now.whole).behind }

pub returns-clause-steps : goal.returns-clause-steps
returns-clause-steps c =
    one_given c.args.self.now.bytes.now c.cut.result.1.now (shown_packet c.cut.result.0) (grind (arith, nat_tests)) c.args.self.now.whole c.cut.ensures.packet c.cut.ensures.rest

pub returns-clause-goes : goal.returns-clause-goes
returns-clause-goes c =
    let given = one_given c.args.self.now.bytes.now c.cut.result.1.now (shown_packet c.cut.result.0) (grind (arith, nat_tests)) c.args.self.now.whole c.cut.ensures.packet c.cut.ensures.rest in
    let shorter = ap length given in search rules
