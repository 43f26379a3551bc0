-- The piece is copied with what is in front of it, and the line then starts where the piece does.
use Rattle.std.proofs.Common.{ℕ, ◌-◌, ◌≤◌, List, ◌++◌, length, drop, ap, ◌∙◌, arith}
use Rattle.std.proofs.lemmas.List.{length-drop}
use borrow.Rule.Slice.PartMut.{put_mid}
use Rattle.book_text.proofs.Pieces.{piece_in_front}
use Rattle.book_text.proofs.tail.Tail.piece.Goals as goal

pub returns : goal.returns
returns c =
    let s = c.self.inside in
    let piece = c.args.piece.now in
    let put = λ (ys : List ℕ). put_mid (s.start - 48) (s.start - (s.start - 48)) s.bytes ys in
    let left = length-drop s.start s.bytes in
    let far : 48 ≤ s.start = omega (arith, left, ap length c.self.view_is, c.requires, c.self.invariant) in
    ap (λ n. drop (s.start - n) (put c.copy_from_slice.new.self)) c.len.ensures
    ∙ (ap (λ ys. drop (s.start - length piece) (put ys)) c.copy_from_slice.ensures.after
    ∙ (piece_in_front s.bytes c.whole.result.now piece s.start far (omega (arith, c.self.invariant)) c.whole.ensures.size c.whole.ensures.end ∙ ap (λ (l : List ℕ). piece ++ l) c.self.view_is))
