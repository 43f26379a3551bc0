use Rattle.std.proofs.Common.{◌≡◌, ◌∙◌, sym, arith}
use Rattle.std.specs.Int.{w32, from_be_bytes}
use Rattle.wire_packets.proofs.packet_bytes.Listed.{listed_here, listed_behind, listed_nowhere}
use Rattle.wire_packets.proofs.packet_bytes.words.has_word.Goals as goal

pub returns-then-read_u32-number : goal.returns-then-read_u32-number
returns-then-read_u32-number c =
    let is : from_be_bytes w32 c.loop-rest.rest.now ≡ c.args.number = omega arith in
    sym (listed_here c.args.number c.loop-rest.rest.now c.loop-rest-test.true is) ∙ c.loop-rest.invariant

pub loop-rest-preserved : goal.loop-rest-preserved
loop-rest-preserved c =
    let is_not = λ (e : from_be_bytes w32 c.loop-rest.rest.now ≡ c.args.number). c.if-read_u32-number.false (omega arith) in
    rw c.split_at.ensures.back (sym (listed_behind c.args.number c.loop-rest.rest.now c.loop-rest-test.true is_not) ∙ c.loop-rest.invariant)

pub returns : goal.returns
returns c = sym (listed_nowhere c.args.number c.loop-rest.rest.now c.loop-rest-test.false) ∙ c.loop-rest.invariant
