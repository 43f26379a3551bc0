use Rattle.std.proofs.Common.{arith}
use Rattle.std.proofs.lemmas.List.{take_all}
use Rattle.hex_text.proofs.Values.{are_lower, values_joined, values_small}
use Rattle.hex_text.proofs.block.decode_block.Goals as goal

pub values_of-values-requires : goal.values_of-values-requires
values_of-values-requires c = rw (take_all 32 c.args.digits.now (omega (arith, c.requires.count))) (are_lower c.args.digits.now c.requires.lower)

pub joined-requires : goal.joined-requires
joined-requires c =
    rw (c.values_of-values.ensures, take_all 32 c.args.digits.now (omega (arith, c.requires.count))) (values_small c.args.digits.now (are_lower c.args.digits.now c.requires.lower))

pub returns : goal.returns
returns c =
    let all = take_all 32 c.args.digits.now (omega (arith, c.requires.count)) in
    rw (c.copy_from_slice.ensures.after, c.joined.ensures, c.values_of-values.ensures, all) (values_joined c.args.digits.now (are_lower c.args.digits.now c.requires.lower))
