use Rattle.std.proofs.Common.{◌∙◌, ◌++◌, drop, get_or, refl, sym, arith}
use Rattle.rams_model.specs.Formats.{distance, nack_words}
use Rattle.std.proofs.lemmas.Grind.{common_steps}
use Rattle.rams_model.proofs.ListFacts.{on_failure}
use Rattle.wire_packets.proofs.rtcp_feedback.Packing.{joins_word, begins_word, ends_words, bits_below, bits_few, room_for_word, kept_behind}
use Rattle.std.specs.Int.{w16, to_be_bytes}
use Rattle.wire_packets.proofs.rtcp_feedback.nack_writing.append_words.Goals as goal

pub loop-number-preserved-then-joins : goal.loop-number-preserved-then-joins
loop-number-preserved-then-joins c =
    let l = c.loop-number in
    let d = distance l.pid (get_or c.in-Some.rest.now l.number-index 0) in
    let test = sym c.joins.ensures ∙ c.if-joins.true in
    record {
      whole = joins_word l.text.items (c.args.text.now.items ++ nack_words c.args.numbers.now) c.in-Some.rest.now l.number-index l.pid l.blp l.last d c.bit-blp.result
          c.loop-number-test.true refl test c.bit-blp.ensures l.invariant.whole;
      kept = l.invariant.kept;
      capacity = l.invariant.capacity;
      bits = bits_below l.blp l.last d c.bit-blp.result l.invariant.bits test c.bit-blp.ensures;
      few = bits_few l.last d test;
    }

pub loop-number-preserved : goal.loop-number-preserved
loop-number-preserved c =
    let l = c.loop-number in
    let d = distance l.pid (get_or c.in-Some.rest.now l.number-index 0) in
    let test = sym c.joins.ensures ∙ c.if-joins.false in
    record {
      whole = begins_word l.text.items c.append_word.new.text.items (c.args.text.now.items ++ nack_words c.args.numbers.now) c.in-Some.rest.now l.number-index l.pid l.blp l.last d
          c.loop-number-test.true refl test (grind (arith, common_steps)) l.invariant.whole;
      kept = (
        l.invariant.kept.0 ++ (to_be_bytes w16 l.pid ++ to_be_bytes w16 l.blp),
        kept_behind c.args.text.now.items l.invariant.kept.0 l.text.items (to_be_bytes w16 l.pid ++ to_be_bytes w16 l.blp) c.append_word.new.text.items l.invariant.kept.1 c.in_ok-append_word.ensures.text,
      );
      capacity = omega arith;
      bits = omega arith;
      few = omega arith;
    }

pub returns-in_err-append_word-clause-full : goal.returns-in_err-append_word-clause-full
returns-in_err-append_word-clause-full c =
    let l = c.loop-number in
    let room = room_for_word l.text.items c.args.text.now.items (nack_words c.args.numbers.now) (drop l.number-index c.in-Some.rest.now) l.pid l.blp l.last l.invariant.whole in
    on_failure c.from_residual.result _ (omega (arith, room, l.invariant.capacity, c.in_err-append_word.ensures.full))

pub returns-in_err-append_word-2-clause-full : goal.returns-in_err-append_word-2-clause-full
returns-in_err-append_word-2-clause-full c =
    let l = c.loop-number in
    let room = room_for_word l.text.items c.args.text.now.items (nack_words c.args.numbers.now) (drop l.number-index c.in-Some.rest.now) l.pid l.blp l.last l.invariant.whole in
    on_failure c.from_residual-in_err-append_word-2.result _ (omega (arith, room, l.invariant.capacity, c.in_err-append_word-2.ensures.full))

pub returns-clause-text : goal.returns-clause-text
returns-clause-text c =
    let l = c.loop-number in
    ends_words l.text.items c.append_word-2.new.text.items (c.args.text.now.items ++ nack_words c.args.numbers.now) c.in-Some.rest.now l.number-index l.pid l.blp l.last
    c.loop-number-test.false c.in_ok-append_word-2.ensures.text l.invariant.whole
