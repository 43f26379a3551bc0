use Rattle.std.proofs.Common.{ℕ, ◌-◌, ◌*◌, List, length, drop, refl, ap, ◌∙◌, arith}
use Rattle.std.proofs.lemmas.List.{take_all, length-drop}
use Rattle.hex_text.specs.{pair_bytes}
use Rattle.hex_text.proofs.Reading.{bytes_last}
use Rattle.hex_text.proofs.Values.{lower_front, lower_rest}
use Rattle.hex_text.proofs.decode.decode_rest.Goals as goal

pub decode_block-requires-clause-lower : goal.decode_block-requires-clause-lower
decode_block-requires-clause-lower c =
    let first = 2 * (length c.args.out.now - 16) in
    lower_front (length c.args.digits.now - first) (drop first c.args.digits.now) (lower_rest first c.args.digits.now c.requires.lower)

pub returns-else-size-lt16 : goal.returns-else-size-lt16
returns-else-size-lt16 c =
    let digits = c.args.digits.now in
    let first = 2 * (length c.args.out.now - 16) in
    let all = take_all (length digits - first) (drop first digits) (omega (arith, length-drop first digits)) in
    bytes_last digits c.args.out.now c.decode_block.new.out c.args.done _ c.if-size-lt16.false c.requires.short c.requires.within c.requires.room refl (c.decode_block.ensures ∙ ap (λ (l : List ℕ). pair_bytes l) all) c.requires.front
