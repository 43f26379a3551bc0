use Rattle.std.proofs.Common.{◌≡◌, ◌*◌, ◌++◌, take, drop}
use Rattle.hex_text.specs.{pair_bytes}
use Rattle.hex_text.proofs.decode.decode_blocks.Given as goal

abbrev pub invariant-parts : goal.invariant-parts
invariant-parts l = take (16 * l.k) l.out ++ pair_bytes (drop (32 * l.k) l.digits) ≡ pair_bytes l.digits
