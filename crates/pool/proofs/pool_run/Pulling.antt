-- Books and takers, one lane after another.
use Rattle.std.proofs.Common.{◌≡◌, ℕ, ◌+◌, ◌<◌, List, [], ◌∷◌, ◌++◌, length, get_or, sym, ap, ◌∙◌, arith}
use Rattle.std.specs.Prelude.{Result, Ok}
use Rattle.std.proofs.lemmas.List.{length-append}
use Rattle.std.proofs.Math.ListN.{get_or-append}
use Rattle.std.proofs.Math.Seq.{get_or-append_seam}
use mathlib.Core.Logic.{dite}
use native.Mathlib.Decide.{ℕ_discrete}
use Rattle.ram_io.specs.declared.NoMemory.{NoMemory}
use Rattle.channel_book.specs.{Kept}
use Rattle.pool.specs.link_pool.{Claimer}
use Rattle.pool.specs.declared.pool_run.lane.Ran.{Ran}
use Rattle.pool.specs.pool_run.{ran_of, ArePulled}

module _ {A : Type 0} where
  pub at_end : (xs : List A) (x d : A) (i : ℕ) → i ≡ length xs → get_or (xs ++ x ∷ []) i d ≡ x
  at_end xs x d i e = ap (λ (k : ℕ). get_or (xs ++ x ∷ []) k d) e ∙ get_or-append_seam xs x [] d

  pub in_front : (xs : List A) (x d : A) (i : ℕ) → i < length xs → get_or (xs ++ x ∷ []) i d ≡ get_or xs i d
  in_front xs x d i less = get_or-append xs (x ∷ []) d i less

  longer : (xs : List A) (x : A) → length (xs ++ x ∷ []) ≡ length xs + 1
  longer xs x = length-append xs (x ∷ [])

pub pulls_on : (done : List (Result Ran NoMemory)) (books : List Kept) (takers : List Claimer) (r : Result Ran NoMemory) (book : Kept) (taker : Claimer) → r ≡ Ok (ran_of book taker)
    → ArePulled done books takers → ArePulled (done ++ r ∷ []) (books ++ book ∷ []) (takers ++ taker ∷ [])
pulls_on done books takers r book taker is pulled = (
  omega (arith, longer books book, longer done r, pulled.0),
  omega (arith, longer takers taker, longer done r, pulled.1),
  λ i q d less.
      dite (ℕ_discrete i (length done))
      (λ e. at_end done r q i e ∙ (is ∙ (λ j. Ok (ran_of (sym (at_end books book d.book i (e ∙ sym pulled.0)) j) (sym (at_end takers taker d.taker i (e ∙ sym pulled.1)) j)))))
      (λ ne. let front : i < length done = omega (arith, less, longer done r, ne) in
      in_front done r q i front
      ∙ (pulled.2 i q d front
      ∙ (λ j. Ok (ran_of (sym (in_front books book d.book i (omega (arith, front, pulled.0))) j) (sym (in_front takers taker d.taker i (omega (arith, front, pulled.1))) j))))),
)
