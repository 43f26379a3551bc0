-- Views of which one changes, is cut in two, or is put together with another: what holds of each, and what they add up to.
use Rattle.std.proofs.Common.{◌≡◌, ◌≢◌, ℕ, ◌+◌, List, [], ◌∷◌, ◌++◌, set, sym, ◌∙◌, subst, ⊎_elim, arith}
use mathlib.Core.Option.{some}
use lib.ListN.{get_elem?}
use Rattle.atomic_table.proofs.Lists.{at_set, at_snoc, set_else}
use Rattle.channel_book.specs.channel_lock.{total}
use Rattle.channel_book.proofs.channel_lock.Lists.{total_set, total_snoc}

module _ {A : Type 0} (Fits : A → Type 0) where
  pub fits_set : (views : List A) (id : ℕ) (w : A) → ((j : ℕ) (u : A) → j ≢ id → get_elem? views j ≡ some u → Fits u) → Fits w
      → (j : ℕ) (u : A) → get_elem? (set views id w) j ≡ some u → Fits u
  fits_set views id w others mine j u e =
      ⊎_elim (λ (x : (j ≡ id) × (w ≡ u)). subst Fits x.1 mine) (λ (x : (j ≢ id) × (get_elem? views j ≡ some u)). others j u x.0 x.1) (at_set views id j w u e)

  pub fits_snoc : (views : List A) (w : A) → ((j : ℕ) (u : A) → get_elem? views j ≡ some u → Fits u) → Fits w
      → (j : ℕ) (u : A) → get_elem? (views ++ w ∷ []) j ≡ some u → Fits u
  fits_snoc views w others mine j u e =
      ⊎_elim (λ (x : get_elem? views j ≡ some u). others j u x) (λ (x : w ≡ u). subst Fits x mine) (at_snoc views w u j e)

-- by each of these weights they add up to the same
abbrev pub SameSums : {K A : Type 0} → (K → A → ℕ) → List A → List A → Type 0
SameSums {K} weight old new = (k : K) → total (weight k) new ≡ total (weight k) old

module _ {K A : Type 0} (weight : K → A → ℕ) where
  -- one view changes what isn't counted
  pub sums_set : (views : List A) (id : ℕ) (v w : A) → get_elem? views id ≡ some v → ((k : K) → weight k w ≡ weight k v) → SameSums weight views (set views id w)
  sums_set views id v w at same k = omega (arith, total_set (weight k) views id v w at, same k)

  -- a view is cut in two
  pub sums_cut : (views : List A) (id : ℕ) (v left right : A) → get_elem? views id ≡ some v → ((k : K) → weight k left + weight k right ≡ weight k v)
      → SameSums weight views (set views id left ++ right ∷ [])
  sums_cut views id v left right at same k =
      omega (arith, total_snoc (weight k) (set views id left) right, total_set (weight k) views id v left at, same k)

  -- two views are put together
  pub sums_join : (views : List A) (id other : ℕ) (v w both spent : A) → get_elem? views id ≡ some v → get_elem? (set views id both) other ≡ some w
      → ((k : K) → weight k both + weight k spent ≡ weight k v + weight k w) → SameSums weight views (set (set views id both) other spent)
  sums_join views id other v w both spent at there same k =
      omega (arith, total_set (weight k) (set views id both) other w spent there, total_set (weight k) views id v both at, same k)

  -- a view comes that counts nothing
  pub sums_snoc : (views : List A) (w : A) → ((k : K) → weight k w ≡ 0) → SameSums weight views (views ++ w ∷ [])
  sums_snoc views w none k = omega (arith, total_snoc (weight k) views w, none k)

-- the other view, before the first changed
pub at_other : {A : Type 0} (views : List A) (id other : ℕ) (both w : A) → other ≢ id → get_elem? (set views id both) other ≡ some w → get_elem? views other ≡ some w
at_other views id other both w apart there = sym (set_else views id other both apart) ∙ there
