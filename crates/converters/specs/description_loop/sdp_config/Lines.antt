-- The lines of a session description (RFC 8866, 5).
use Rattle.std.specs.Prelude.{ℕ, Bool, false, ◌&&◌, ◌==◌, nat_le, if◌then◌else◌, List, [], ◌∷◌, length, Option, None, Some}
use Rattle.std.specs.Borrow.{Bor}
use Rattle.std.specs.Int.{is_in_range}
use Rattle.std.specs.List.{onto_first, slice_split}

-- whether this byte stands in front
abbrev pub begins_with : ℕ → List ℕ → Bool
begins_with b [] = false
begins_with b (c ∷ bytes) = c == b

-- The lines: each ends with LF or CR LF, and the last may lack it. A CR that no LF follows belongs to its line.
unfoldable pub lines_in : List ℕ → List (List ℕ)
lines_in [] = []
lines_in (b ∷ bytes) =
    if b == 10 then [] ∷ lines_in bytes
    else if b == 13 && begins_with 10 bytes then lines_in bytes
    else onto_first b (lines_in bytes)

-- a line without the CR at its end
abbrev pub bare : List ℕ → List ℕ
bare [] = []
bare (b ∷ []) = if b == 13 then [] else b ∷ []
bare (b ∷ c ∷ line) = b ∷ bare (c ∷ line)

-- a letter, `=` and any bytes; at most 4,096 in all
abbrev pub is_line : List ℕ → Bool
is_line (letter ∷ equals ∷ value) = is_in_range 97 122 letter && equals == 61 && nat_le (length (letter ∷ equals ∷ value)) 4096
is_line _ = false

-- whether the line's letter is `m`: a section begins (RFC 8866, 5.14)
abbrev pub is_media : List ℕ → Bool
is_media line = begins_with 109 line

-- the pieces between marks
abbrev pub pieces_of : ℕ → List ℕ → List (List ℕ)
pieces_of mark bytes = slice_split (λ b. b == mark) bytes

-- the first of some pieces
abbrev pub front_of : List (List ℕ) → List ℕ
front_of [] = []
front_of (piece ∷ pieces) = piece

-- the bytes up to the first mark, or all
abbrev pub first_piece : ℕ → List ℕ → List ℕ
first_piece mark bytes = front_of (pieces_of mark bytes)

-- those of the bytes that are left, of which there may be none
abbrev pub pieces_behind : ℕ → Option (Bor (List ℕ)) → List (List ℕ)
pieces_behind mark None = []
pieces_behind mark (Some bytes) = pieces_of mark bytes.now

-- what stands behind this text in a line that begins with it
abbrev pub behind : List ℕ → List ℕ → Option (List ℕ)
behind [] line = Some line
behind (c ∷ text) [] = None
behind (c ∷ text) (b ∷ line) = if b == c then behind text line else None
