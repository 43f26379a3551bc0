-- Presenting ends: each time it takes out a piece that waits.
use Rattle.std.proofs.Common.{◌≡◌, ℕ, zero, suc, ◌≤◌, ◌⊎◌, List, [], ◌∷◌, length, Option, Some, None, option_map, option_and_then, refl, ap, sym, ◌∙◌, arith, inl, inr, ⊎_elim}
use Rattle.rams_model.specs.Receiver.{Piece, Playing, piece_at, presented, past, after_presenting, Reception, shown_now, after_shown}
use Rattle.rams_model.proofs.PieceCounts.{one_less}
use Rattle.service_laws.specs.receiver_laws.Presenting.{presented_often}

none_there : (n : ℕ) (qs : List Piece) → length qs ≤ 0 → piece_at n qs ≡ None
none_there n [] le = refl
none_there n (q ∷ qs) le = absurd (omega arith)

-- so many more times are enough
abbrev IsEnough : ℕ → Playing → Type 0
IsEnough count p = (length p.waits ≤ count) ⊎ (presented p ≡ None)

enough_after : (count : ℕ) (p : Playing) (o : Option Piece) → presented p ≡ o → IsEnough (suc count) p → IsEnough count (past o p)
enough_after count p None e h = inr e
enough_after count p (Some q) e h =
    let less = one_less p.next q p.waits e in
    inl (⊎_elim (λ le. omega (arith, le, less)) (λ none. let no : Some q ≡ None = sym e ∙ none in absurd cc) h)

pub ends : (count : ℕ) (r : Reception) (p : Playing) → r.play ≡ Some p → IsEnough count p → shown_now (presented_often count r) ≡ None
unfolding presented_often after_shown
ends zero r p e h = ap (option_and_then presented) e ∙ ⊎_elim (λ le. none_there p.next p.waits le) (λ none. none) h
ends (suc count) r p e h = ends count (after_shown r) (after_presenting p) (ap (option_map after_presenting) e) (enough_after count p (presented p) refl h)
