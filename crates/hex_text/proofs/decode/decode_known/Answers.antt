use Rattle.std.proofs.Common.{◌%◌, ◌==◌, length, arith}
use Rattle.std.proofs.lemmas.Bool.{and_parts, eqb-true}
use Rattle.std.specs.List.{list_all}
use Rattle.hex_text.specs.{is_lower_digit}
use Rattle.hex_text.proofs.Reading.{decode_of-lower}
use Rattle.hex_text.proofs.decode.decode_known.Goals as goal

pub decode_blocks-requires-clause-lower : goal.decode_blocks-requires-clause-lower
decode_blocks-requires-clause-lower c = (and_parts (length c.args.digits.now % 2 == 0) (list_all is_lower_digit c.args.digits.now) c.requires.lower).1

pub decode_blocks-requires-clause-room : goal.decode_blocks-requires-clause-room
decode_blocks-requires-clause-room c =
    let even = eqb-true (length c.args.digits.now % 2) 0 (and_parts (length c.args.digits.now % 2 == 0) (list_all is_lower_digit c.args.digits.now) c.requires.lower).0 in
    omega (arith, even, c.requires.room)

pub returns : goal.returns
returns c =
    let digits = c.args.digits.now in
    let parts = and_parts (length digits % 2 == 0) (list_all is_lower_digit digits) c.requires.lower in
    rw c.decode_blocks.ensures (decode_of-lower digits (eqb-true (length digits % 2) 0 parts.0) parts.1)
