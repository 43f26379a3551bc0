-- What words of hexadecimal digits stand for.
use Rattle.std.specs.Prelude.{ℕ, List, [], Result, Ok, Err}
use Rattle.hex.specs.Hex.{decode_of}
use Rattle.hex.specs.declared.error.FromHexError.{FromHexError}

-- the bytes of what was decoded; none where it couldn't be
abbrev pub decoded : Result (List ℕ) FromHexError → List ℕ
decoded (Ok bytes) = bytes
decoded (Err error) = []

-- the bytes that a word stands for
abbrev pub bytes_in : List ℕ → List ℕ
bytes_in word = decoded (decode_of word)
