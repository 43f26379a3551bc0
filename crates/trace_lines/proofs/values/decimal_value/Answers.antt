use Rattle.std.proofs.Common.{arith, refl}
use Rattle.trace_lines.proofs.Digits.{digit_at, one_more, below_more, below_15}
use Rattle.trace_lines.proofs.values.decimal_value.Goals as goal

pub overflow_mul-value : goal.overflow_mul-value
overflow_mul-value c =
    let below = below_15 _ _ c.loop-digit.invariant.1 (omega arith) in
    omega arith

pub overflow_add-value : goal.overflow_add-value
overflow_add-value c =
    let digit = digit_at c.args.word.now c.loop-digit.digit-index c.requires.digits (omega arith) in
    let below = below_15 _ _ c.loop-digit.invariant.1 (omega arith) in
    omega (arith, c.from.ensures)

pub loop-digit-preserved : goal.loop-digit-preserved
loop-digit-preserved c =
    let digit = digit_at c.args.word.now c.loop-digit.digit-index c.requires.digits (omega arith) in
    let more = one_more c.args.word.now c.loop-digit.digit-index c.requires.digits (omega arith) in
    (rw (more, c.loop-digit.invariant.0, c.from.ensures) refl, below_more _ _ _ c.loop-digit.invariant.1 (omega (arith, c.from.ensures)))
