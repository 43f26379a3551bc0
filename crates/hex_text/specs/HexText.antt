-- Hexadecimal text whose letters are lower-case.
use Rattle.std.specs.Prelude.{ℕ, ◌%◌, Bool, ◌&&◌, ◌||◌, ◌==◌, List, length}
use Rattle.std.specs.Int.{is_in_range}
use Rattle.std.specs.List.{list_all}

-- `0` to `9`, or `a` to `f`
abbrev pub is_lower_digit : ℕ → Bool
is_lower_digit c = is_in_range 48 57 c || is_in_range 97 102 c

-- an even number of such digits
abbrev pub is_lower_hex : List ℕ → Bool
is_lower_hex text = length text % 2 == 0 && list_all is_lower_digit text
