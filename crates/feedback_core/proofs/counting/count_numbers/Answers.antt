-- An entry more is counted, until none is left.
use Rattle.std.proofs.Common.{List, ℕ, length, ap, arith}
use Rattle.rams_model.specs.Formats.{numbers_of}
use Rattle.wire_packets.proofs.rtcp_feedback.NumberSteps.{words_end}
use Rattle.feedback_core.proofs.Counts.{count_entry, named_whole}
use Rattle.feedback_core.proofs.counting.count_numbers.Goals as goal

pub loop-entries-init : goal.loop-entries-init
loop-entries-init c = omega (arith, ap length (named_whole c.args.fci.now c.if-fci-ne0.false))

pub loop-entries-preserved : goal.loop-entries-preserved
loop-entries-preserved c =
    let l = c.loop-entries in
    let counted = count_entry l.entries.now c.from_be_bytes-blp.result c.loop-entries-test.true c.from_be_bytes-blp.ensures c.from_be_bytes-blp.type_inv in
    let rest = ap (λ (entries : List ℕ). length (numbers_of entries)) c.split_at.ensures.back in
    omega (arith, l.invariant, counted, rest)

pub returns : goal.returns
returns c =
    let l = c.loop-entries in
    omega (arith, l.invariant, ap length (words_end l.entries.now c.loop-entries-test.false))
