use Rattle.std.proofs.Common.{◌≡◌, ◌*◌, ◌++◌, take, drop}
use Rattle.hex.specs.Hex.{encode_lower}
use Rattle.hex_text.proofs.encode.encode_all.Given as goal

abbrev pub invariant-parts : goal.invariant-parts
invariant-parts l = take (32 * l.k) l.out ++ encode_lower (drop (16 * l.k) l.bytes) ≡ encode_lower l.bytes
