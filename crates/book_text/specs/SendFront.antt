-- The end of a line, and behind it the line of a datagram as far as its digits.
use Rattle.std.specs.Prelude.{ℕ, List, ◌++◌, codes, decimal}
use Rattle.rams_model.specs.Texts.{spaced}

abbrev pub send_front : ℕ → ℕ → ℕ → List ℕ
send_front event id client = codes "\n" ++ ((decimal event ++ spaced id ++ codes " ") ++ (codes "send" ++ (spaced client ++ codes " ")))
