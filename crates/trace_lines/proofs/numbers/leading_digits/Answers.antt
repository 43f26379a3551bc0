use Rattle.std.proofs.Common.{◌≡◌, true, get_or, ◌∙◌, sym, arith}
use Rattle.rams_model.specs.Texts.{is_digit}
use Rattle.trace_lines.proofs.Digits.{another, below_15, below_more, one_digit}
use Rattle.trace_lines.proofs.numbers.leading_digits.Goals as goal

pub overflow_mul-value : goal.overflow_mul-value
overflow_mul-value c =
    let below = below_15 _ _ c.digits.invariant.below (omega arith) in
    omega arith

pub overflow_add-value : goal.overflow_add-value
overflow_add-value c =
    let digit = one_digit (get_or c.args.bytes.now c.digits.count 0) (sym c.is_ascii_digit.ensures.value ∙ c.if-not-is_ascii_digit.false) in
    let below = below_15 _ _ c.digits.invariant.below (omega arith) in
    omega (arith, c.from.ensures)

pub digits-preserved : goal.digits-preserved
digits-preserved c =
    let passes : is_digit (get_or c.args.bytes.now c.digits.count 0) ≡ true = sym c.is_ascii_digit.ensures.value ∙ c.if-not-is_ascii_digit.false in
    let digit = one_digit (get_or c.args.bytes.now c.digits.count 0) passes in
    let more = another c.args.bytes.now c.digits.count c.digits.value (omega arith) passes c.digits.invariant.digits c.digits.invariant.value in
    record {
      digits = more.0;
      value = rw c.from.ensures more.1;
      below = below_more _ _ _ c.digits.invariant.below (omega (arith, c.from.ensures));
    }
