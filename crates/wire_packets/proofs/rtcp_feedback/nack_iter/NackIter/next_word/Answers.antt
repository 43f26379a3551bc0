use Rattle.std.proofs.Common.{◌≡◌, drop, ap, arith}
use Rattle.std.specs.Int.{w16, from_be_bytes}
use Rattle.wire_packets.proofs.rtcp_feedback.NumberSteps.{next_word, no_word}
use Rattle.wire_packets.proofs.rtcp_feedback.nack_iter.NackIter.next_word.Goals as goal

pub returns-then-words-lt4 : goal.returns-then-words-lt4
returns-then-words-lt4 c =
    let none = no_word c.args.self.now.pid c.args.self.now.blp c.args.self.now.bit c.args.self.now.words.now c.requires c.if-words-lt4.true in
    (none, none)

pub returns : goal.returns
returns c =
    let words = c.args.self.now.words.now in
    let bits = c.split_at.ensures.back in
    let first : c.read_u16-self.result ≡ from_be_bytes w16 words = omega arith in
    let second : c.read_u16-self-2.result ≡ from_be_bytes w16 (drop 2 words) = omega (arith, ap (from_be_bytes w16) bits) in
    next_word c.args.self.now.pid c.args.self.now.blp c.args.self.now.bit c.read_u16-self.result c.read_u16-self-2.result words c.split_at-2.result.1.now
    c.requires c.if-words-lt4.false first second c.split_at-2.ensures.back
