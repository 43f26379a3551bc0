use Rattle.std.proofs.Common.{◌∙◌, arith}
use Rattle.std.proofs.lemmas.Bool.Decides.{nat_tests}
use Rattle.wire_packets.specs.rams_tlv.{tlvs_of, value_in}
use Rattle.wire_packets.proofs.rams_tlv.Reading.{front_of, no_value, found_in_front, found_length, not_in_front}
use Rattle.wire_packets.proofs.rams_tlv.tlvs.Tlvs.first.Goals as goal

pub cut-found-requires-clause-header : goal.cut-found-requires-clause-header
cut-found-requires-clause-header c =
    (front_of c.args.self.now.message c.args.kind c.loop-rest.rest.now (grind (arith, nat_tests)) c.loop-rest.invariant.lawful).whole.header

pub cut-found-requires-clause-whole : goal.cut-found-requires-clause-whole
cut-found-requires-clause-whole c =
    (front_of c.args.self.now.message c.args.kind c.loop-rest.rest.now (grind (arith, nat_tests)) c.loop-rest.invariant.lawful).whole.within

pub returns-then-found-kind-clause-value : goal.returns-then-found-kind-clause-value
returns-then-found-kind-clause-value c =
    found_in_front c.args.self.now.message c.args.kind c.cut-found.result.0 c.loop-rest.rest.now c.cut-found.result.1.now (value_in c.args.kind (tlvs_of c.args.self.now.message c.args.self.now.bytes.now))
    (grind (arith, nat_tests)) c.loop-rest.invariant.lawful c.loop-rest.invariant.same c.cut-found.ensures.kind c.if-found-kind.true c.cut-found.ensures.value

pub returns-then-found-kind-clause-length : goal.returns-then-found-kind-clause-length
returns-then-found-kind-clause-length c =
    found_length c.args.self.now.message c.args.kind c.cut-found.result.0 c.loop-rest.rest.now c.cut-found.result.1.now
    (front_of c.args.self.now.message c.args.kind c.loop-rest.rest.now (grind (arith, nat_tests)) c.loop-rest.invariant.lawful).whole
    c.cut-found.ensures.kind c.if-found-kind.true c.cut-found.ensures.value

pub loop-rest-preserved : goal.loop-rest-preserved
loop-rest-preserved c = record {
  lawful = rw c.cut-found.ensures.rest (front_of c.args.self.now.message c.args.kind c.loop-rest.rest.now (grind (arith, nat_tests)) c.loop-rest.invariant.lawful).behind;
  same = rw c.cut-found.ensures.rest
      (not_in_front c.args.self.now.message c.args.kind c.cut-found.result.0 c.loop-rest.rest.now (value_in c.args.kind (tlvs_of c.args.self.now.message c.args.self.now.bytes.now))
      (grind (arith, nat_tests)) c.loop-rest.invariant.lawful c.loop-rest.invariant.same c.cut-found.ensures.kind c.if-found-kind.false);
}

pub returns-clause-value : goal.returns-clause-value
returns-clause-value c = no_value c.args.self.now.message c.args.kind c.loop-rest.rest.now (grind (arith, nat_tests)) ∙ c.loop-rest.invariant.same
