-- What a text starts with, where more is appended to it.
use Rattle.std.proofs.Common.{ℕ, List, ◌++◌, length, take, drop, ap, ◌∙◌, arith}
use Rattle.std.proofs.lemmas.List.{take_all, take-append-le, take-append-drop, length-append}
use Rattle.std.specs.Io.{StartsWith}

pub starts_with_itself : (text : List ℕ) → StartsWith text text
starts_with_itself text = take_all (length text) text (omega arith)

-- what it starts with, it starts with after more is appended
pub starts_on : (front text more : List ℕ) → StartsWith text front → StartsWith (text ++ more) front
starts_on front text more starts =
    let n = length front in
    let long = length-append (take n text) (drop n text) in
    take-append-le n text more (omega (arith, long, ap length starts, ap length (take-append-drop n text))) ∙ starts
