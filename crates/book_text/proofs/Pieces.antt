-- Where a piece comes to stand that is copied with what is in front of it.
use Rattle.std.proofs.Common.{◌≡◌, ℕ, ◌+◌, ◌-◌, ◌≤◌, List, ◌++◌, length, take, drop, ap, ◌∙◌, arith}
use Rattle.std.proofs.lemmas.List.{length-drop, length-take-le, drop-append-le, drop-drop}
use Rattle.std.proofs.Math.Seq.{drop-append-add}
use borrow.Rule.Slice.PartMut.{put_mid}

pub piece_in_front : (bytes whole piece : List ℕ) (start : ℕ) → 48 ≤ start → start ≤ length bytes → length whole ≡ 48 → drop (48 - length piece) whole ≡ piece
    → drop (start - length piece) (put_mid (start - 48) (start - (start - 48)) bytes whole) ≡ piece ++ drop start bytes
piece_in_front bytes whole piece start far within long is =
    let a = start - 48 in
    let n = 48 - length piece in
    let few : length piece ≤ 48 = omega (arith, length-drop n whole, ap length is, long) in
    let front : length (take a bytes) ≡ a = length-take-le a bytes (omega arith) in
    let place : start - length piece ≡ length (take a bytes) + n = omega (arith, front) in
    let all : a + (start - a) ≡ start = omega arith in
    let rest : drop (start - a) (drop a bytes) ≡ drop start bytes = drop-drop (start - a) a bytes ∙ ap (λ m. drop m bytes) all in
    ap (λ m. drop m (put_mid a (start - a) bytes whole)) place
    ∙ (drop-append-add (take a bytes) (whole ++ drop (start - a) (drop a bytes)) n
    ∙ (drop-append-le n whole (drop (start - a) (drop a bytes)) (omega (arith, long))
    ∙ (ap (λ (l : List ℕ). l ++ drop (start - a) (drop a bytes)) is ∙ ap (λ (l : List ℕ). piece ++ l) rest)))
