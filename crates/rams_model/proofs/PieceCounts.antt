-- How many pieces wait, with one more and with one less.
use Rattle.std.proofs.Common.{◌≡◌, ℕ, ◌+◌, Bool, true, false, cond, List, [], ◌∷◌, length, Option, Some, arith, refl, eqb, ltb}
use Rattle.std.proofs.lemmas.Bool.{cond_both}
use Rattle.rams_model.specs.Receiver.{Piece, piece_at, with_piece, without_piece}

pub one_more : (new : Piece) (qs : List Piece) → length (with_piece new qs) ≡ length qs + 1
unfolding with_piece
one_more new [] = refl
one_more new (q ∷ qs) =
    cond_both (ltb new.n q.n) (new ∷ q ∷ qs) (q ∷ with_piece new qs) (λ rs. length rs ≡ length (q ∷ qs) + 1) (λ t. omega arith) (λ t. omega (arith, one_more new qs))

-- what is found is one of the pieces
one_less_step : (b : Bool) (q r : Piece) (qs rest : List Piece) (found : Option Piece) → cond b (Some r) found ≡ Some q → (found ≡ Some q → length rest + 1 ≡ length qs)
    → length (cond b qs (r ∷ rest)) + 1 ≡ length (r ∷ qs)
one_less_step true q r qs rest found e less = omega arith
one_less_step false q r qs rest found e less = omega (arith, less e)

pub one_less : (n : ℕ) (q : Piece) (qs : List Piece) → piece_at n qs ≡ Some q → length (without_piece n qs) + 1 ≡ length qs
unfolding without_piece
one_less n q [] e = absurd cc
one_less n q (r ∷ qs) e = one_less_step (eqb r.n n) q r qs (without_piece n qs) (piece_at n qs) e (one_less n q qs)
