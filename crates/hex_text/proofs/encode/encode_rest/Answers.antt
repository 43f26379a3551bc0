use Rattle.std.proofs.Common.{ℕ, ◌-◌, List, length, drop, refl, ap, ◌∙◌, arith}
use Rattle.std.proofs.lemmas.List.{take_all, length-drop}
use Rattle.hex.specs.Hex.{encode_lower}
use Rattle.hex_text.proofs.Blocks.{block_last}
use Rattle.hex_text.proofs.encode.encode_rest.Goals as goal

pub returns-else-size-lt16 : goal.returns-else-size-lt16
returns-else-size-lt16 c =
    let bytes = c.args.bytes.now in
    let first = length bytes - 16 in
    let all = take_all (length bytes - first) (drop first bytes) (omega (arith, length-drop first bytes)) in
    block_last bytes c.args.out.now c.encode_block.new.out c.args.done _ c.if-size-lt16.false c.requires.short c.requires.within c.requires.room refl (c.encode_block.ensures ∙ ap (λ (l : List ℕ). encode_lower l) all) c.requires.front
