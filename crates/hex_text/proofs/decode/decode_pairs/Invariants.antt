use Rattle.std.proofs.Common.{◌≡◌, ◌*◌, ◌++◌, take, drop}
use Rattle.std.specs.List.{list_all}
use Rattle.hex_text.specs.{is_lower_digit, pair_bytes}
use Rattle.hex_text.proofs.decode.decode_pairs.Given as goal

abbrev pub invariant-pairs : goal.invariant-pairs
invariant-pairs l = record {
  digits : l.good ≡ list_all is_lower_digit (take (2 * l.i) l.text);
  bytes : take l.i l.out ++ pair_bytes (drop (2 * l.i) l.text) ≡ pair_bytes l.text;
}
