-- What pairs of digits stand for.
use Rattle.std.specs.Prelude.{ℕ, ◌+◌, ◌-◌, ◌*◌, ◌%◌, if◌then◌else◌, List, [], ◌∷◌}
use Rattle.std.specs.Int.{is_in_range}

-- what a lower-case digit stands for; 255 for any other byte
abbrev pub value_of : ℕ → ℕ
value_of c =
    if is_in_range 48 57 c then c - 48
    else if is_in_range 97 102 c then c - 87
    else 255

-- the byte of two digits, the high one first
abbrev pub pair_byte : ℕ → ℕ → ℕ
pair_byte high low = value_of high % 16 * 16 + value_of low % 16

-- the bytes of the pairs of a text
unfoldable pub pair_bytes : List ℕ → List ℕ
pair_bytes [] = []
pair_bytes (digit ∷ []) = []
pair_bytes (high ∷ low ∷ rest) = pair_byte high low ∷ pair_bytes rest

-- the bytes of pairs of values below 16, the high one first
abbrev pub joined_values : List ℕ → List ℕ
joined_values [] = []
joined_values (value ∷ []) = []
joined_values (high ∷ low ∷ rest) = (high * 16 + low) ∷ joined_values rest
