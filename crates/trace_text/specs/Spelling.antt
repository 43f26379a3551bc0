-- The laws of reading, spelling and order.
use Rattle.std.specs.Prelude.{◌≡◌, ℕ, true, List, Some, Ok}
use Rattle.rams_model.specs.Texts.{TraceLine, line_of, line_at, line_text, is_spelled, Reached, expected, may_come}

-- the text of a line that a trace may have reads as that line
abbrev pub SpelledLinesAreRead : Type 0
SpelledLinesAreRead = (line : TraceLine) → is_spelled line ≡ true → line_at (line_text line) ≡ Ok line

-- what reads as a line is its text
abbrev pub LinesAreSpelledAsRead : Type 0
LinesAreSpelledAsRead = (bytes : List ℕ) (line : TraceLine) → line_at bytes ≡ Ok line → (is_spelled line ≡ true) × (line_text line ≡ bytes)

-- the words of a line tell whether it may come
abbrev pub TheWordsTell : Type 0
TheWordsTell = (r : Reached) (bytes : List ℕ) (line : TraceLine) → line_of bytes ≡ Some line → expected r bytes ≡ may_come r line
