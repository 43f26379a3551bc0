use Rattle.std.proofs.Common.{◌-◌, ◌*◌, ◌+◌, ◌≤◌, length, take, drop, ap, ◌∙◌, arith}
use Rattle.std.proofs.lemmas.List.{take_all, length-drop, length-take-le}
use Rattle.std.specs.List.{list_all}
use Rattle.hex_text.specs.{is_lower_digit}
use Rattle.hex_text.proofs.Extremes.{all_covered, block_more}
use Rattle.hex_text.proofs.test.are_many_digits.Goals as goal

pub blocks-2-init : goal.blocks-2-init
blocks-2-init c =
    let text = c.args.text.now in
    let all = take_all 32 (drop (length text - 32) text) (omega (arith, length-drop (length text - 32) text)) in
    (c.extremes_of-extremes.ensures.lanes, c.extremes_of-extremes.ensures.digits ∙ ap (list_all is_lower_digit) all)

pub blocks-2-preserved : goal.blocks-2-preserved
blocks-2-preserved c =
    let text = c.args.text.now in
    let n = 32 * c.blocks-2.k + 32 - 32 * c.blocks-2.k in
    let rest = drop (32 * c.blocks-2.k) text in
    let fits : n ≤ length rest = omega (arith, length-drop (32 * c.blocks-2.k) text) in
    let all = take_all 32 (take n rest) (omega (arith, length-take-le n rest fits)) in
    (c.widened-extremes.ensures.lanes, block_more text _ (drop (length text - 32) text) c.blocks-2.k n _ _ (omega arith) all c.blocks-2.invariant.1 c.widened-extremes.ensures.digits)

pub returns : goal.returns
returns c = c.is_within.ensures ∙ (c.blocks-2.invariant.1 ∙ all_covered is_lower_digit c.args.text.now (32 * c.blocks-2.k) (length c.args.text.now - 32) (omega arith))
