-- The words of a line that are left to read, and what was read of them.
use Rattle.std.specs.Prelude.{◌≡◌, ℕ, Bool, true, false, List, [], ◌∷◌, Option, Some, None, bytes_eq}
use Rattle.std.specs.Borrow.{Bor}
use Rattle.rams_model.specs.Texts.{one, whole, ◌>>=◌, words_of, number_in, hex_in}
use Rattle.rams_model.specs.Texts.TraceLines.{Words}

-- the words of the bytes that are left, of which there may be none
abbrev pub words_left : Option (Bor (List ℕ)) → Words
words_left None = []
words_left (Some rest) = words_of rest.now

-- whether no word is left
abbrev pub is_end : Words → Bool
is_end [] = true
is_end (word ∷ rest) = false

-- whether this name and a value stand in front
abbrev pub is_named : List ℕ → Words → Bool
is_named name (word ∷ value ∷ rest) = bytes_eq word name
is_named name _ = false

-- the value that was read and the words after it are what a definition reads
abbrev pub Reads : {A : Type 0} → Option A → Words → Option (A × Words) → Type 0
Reads (Some value) left read = read ≡ Some (value, left)
Reads None left read = read ≡ None

-- the word that was read, where a definition reads one
abbrev pub IsWord : Option (Bor (List ℕ)) → Option (List ℕ) → Type 0
IsWord (Some word) read = read ≡ Some word.now
IsWord None read = read ≡ None

-- two numbers that are all the words
abbrev pub pair_in : Words → Option (ℕ × ℕ)
pair_in words = do
  first ← one number_in words
  second ← one number_in first.1
  whole (first.0, second.0) second.1

-- one word of hexadecimal digits that is all the words
abbrev pub last_hex_in : Words → Option (List ℕ)
last_hex_in words = do
  hex ← one hex_in words
  whole hex.0 hex.1
