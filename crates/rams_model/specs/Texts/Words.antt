-- The words of a trace's line, and what they may be.
use Rattle.std.specs.Prelude.{ℕ, ◌%◌, Bool, ◌&&◌, ◌||◌, ◌==◌, not, nat_lt, if◌then◌else◌, List, [], ◌∷◌, ◌++◌, length, slice_index, Option, Some, None, Result, Ok, Err, codes, bytes_eq}
use Rattle.std.specs.List.{list_all}
use Rattle.std.specs.Int.{w32, from_be_bytes, to_be_bytes, is_in_range}
use Rattle.std.specs.Str.Parse.{digits_value}
use Rattle.hex.specs.Hex.{encode_lower, decode_of}
use Rattle.hex.specs.declared.error.FromHexError.{FromHexError}

-- a byte in front of the first of some pieces
abbrev pub onto_first : ℕ → List (List ℕ) → List (List ℕ)
onto_first b [] = (b ∷ []) ∷ []
onto_first b (piece ∷ pieces) = (b ∷ piece) ∷ pieces

-- the pieces that line feeds end; the last of them may lack its line feed
unfoldable pub lines_of : List ℕ → List (List ℕ)
lines_of [] = []
lines_of (b ∷ bytes) = if b == 10 then [] ∷ lines_of bytes else onto_first b (lines_of bytes)

-- a byte in front of the first of some pieces, and in none where there are none
abbrev pub into_first : ℕ → List (List ℕ) → List (List ℕ)
into_first b [] = []
into_first b (piece ∷ pieces) = (b ∷ piece) ∷ pieces

-- the pieces that line feeds end, without a last one that lacks its line feed
unfoldable pub whole_lines : List ℕ → List (List ℕ)
whole_lines [] = []
whole_lines (b ∷ bytes) = if b == 10 then [] ∷ whole_lines bytes else into_first b (whole_lines bytes)

-- The lines of bytes that were taken, by what is left behind them: where nothing is, a last line may lack its line feed.
abbrev pub lines_read : List ℕ → List ℕ → List (List ℕ)
lines_read taken [] = lines_of taken
lines_read taken (b ∷ left) = whole_lines taken

-- the pieces between single spaces
unfoldable pub words_of : List ℕ → List (List ℕ)
words_of [] = [] ∷ []
words_of (b ∷ bytes) = if b == 32 then [] ∷ words_of bytes else onto_first b (words_of bytes)

abbrev pub is_digit : ℕ → Bool
is_digit c = is_in_range 48 57 c

abbrev pub front : List (List ℕ) → List ℕ
front [] = []
front (word ∷ words) = word

-- the bytes in front of the first space
abbrev pub first_word : List ℕ → List ℕ
first_word bytes = front (words_of bytes)

-- words with a space in front of each
abbrev pub spaced_words : List (List ℕ) → List ℕ
spaced_words [] = []
spaced_words (word ∷ words) = 32 ∷ (word ++ spaced_words words)

-- words with a space between two of them
abbrev pub text_of : List (List ℕ) → List ℕ
text_of [] = []
text_of (word ∷ words) = word ++ spaced_words words

-- a digit of hexadecimal text, whose letters are small
abbrev pub is_hex_digit : ℕ → Bool
is_hex_digit c = is_in_range 48 57 c || is_in_range 97 102 c

-- `0`, or a digit 1 to 9 and more digits; at most 15 in all
abbrev pub is_number : List ℕ → Bool
is_number word = is_in_range 1 15 (length word) && list_all is_digit word && (length word == 1 || not (slice_index word 0 == 48))

abbrev pub number_in : List ℕ → Option ℕ
number_in word = if is_number word then Some (digits_value 10 word) else None

-- the bytes of pairs of hexadecimal digits; none where the text isn't such
abbrev pub decoded : Result (List ℕ) FromHexError → List ℕ
decoded (Ok bytes) = bytes
decoded (Err fault) = []

abbrev pub bytes_in : List ℕ → List ℕ
bytes_in word = decoded (decode_of word)

-- eight hexadecimal digits
abbrev pub word32_in : List ℕ → Option ℕ
word32_in word = if length word == 8 && list_all is_hex_digit word then Some (from_be_bytes w32 (bytes_in word)) else None

-- the word that a number below 2^32 is written as
abbrev pub word32 : ℕ → List ℕ
word32 n = encode_lower (to_be_bytes w32 n)

-- `-` for no bytes, or pairs of hexadecimal digits
abbrev pub is_hex : List ℕ → Bool
is_hex word = bytes_eq word (codes "-") || (nat_lt 0 (length word) && length word % 2 == 0 && list_all is_hex_digit word)

-- the word that bytes are written as
abbrev pub hex_word : List ℕ → List ℕ
hex_word [] = codes "-"
hex_word (b ∷ bytes) = encode_lower (b ∷ bytes)
