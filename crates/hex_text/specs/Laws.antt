-- How texts of lower-case digits and bytes go together.
use Rattle.std.specs.Prelude.{◌≡◌, ℕ, true, List, Ok}
use Rattle.hex.specs.Hex.{decode_of, encode_lower, IsBytes}
use Rattle.hex_text.specs.HexText.{is_lower_hex}

-- what bytes are written as decodes to them
abbrev pub WrittenDecodes : Type 0
WrittenDecodes = (bytes : List ℕ) → IsBytes bytes → decode_of (encode_lower bytes) ≡ Ok bytes

-- and is lower-case digits
abbrev pub WrittenIsLower : Type 0
WrittenIsLower = (bytes : List ℕ) → IsBytes bytes → is_lower_hex (encode_lower bytes) ≡ true

-- a text of lower-case digits decodes to bytes, and is what they are written as
abbrev pub LowerIsWritten : Type 0
LowerIsWritten = (text : List ℕ) → is_lower_hex text ≡ true
    → (bytes : List ℕ) × (decode_of text ≡ Ok bytes) × IsBytes bytes × (encode_lower bytes ≡ text)
