use Rattle.std.proofs.Common.{◌≡◌, ◌&&◌, ◌-◌, ◌*◌, length, take, drop}
use Rattle.std.specs.List.{list_all}
use Rattle.hex_text.specs.{is_lower_digit}
use Rattle.hex_text.specs.Extremes.{AreLanes, are_within}
use Rattle.hex_text.proofs.test.are_many_digits.Given as goal

abbrev pub invariant-blocks-2 : goal.invariant-blocks-2
invariant-blocks-2 l = AreLanes l.extremes × (are_within l.extremes ≡ (list_all is_lower_digit (take (32 * l.k) l.text) && list_all is_lower_digit (drop (length l.text - 32) l.text)))
