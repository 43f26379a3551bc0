-- What is kept is what stands behind what is taken away.
use Rattle.std.proofs.Common.{◌-◌, ◌+◌, ◌≡◌, length, drop, ap, sym, ◌∙◌, arith}
use Rattle.std.proofs.lemmas.List.{length-drop, drop-drop}
use Rattle.book_text.proofs.tail.Tail.keep.Goals as goal

pub returns : goal.returns
returns c =
    let s = c.self.inside in
    let n = c.args.n in
    let old = c.args.self.now in
    let long = length-drop s.start s.bytes in
    let place : 272 - n ≡ s.start + (length old - n) = omega (arith, long, ap length c.self.view_is, c.requires, c.self.invariant) in
    ap (λ k. drop k s.bytes) (c.saturating_sub-self-inside.ensures ∙ place) ∙ (sym (drop-drop (length old - n) s.start s.bytes) ∙ ap (drop (length old - n)) c.self.view_is)
