-- Two lists that go together, place by place.
use Rattle.std.proofs.Common.{◌≡◌, ℕ, zero, suc, List, [], ◌∷◌, ◌++◌, Some, length, set, refl, ap, subst}
use Rattle.std.specs.Prelude.{slice_get}
use Rattle.server_hub.specs.{Pairwise}

-- one more pair
pub pair_more : {A B : Type 0} (R : A → B → Type 0) (xs : List A) (ys : List B) (x : A) (y : B) → Pairwise R xs ys → R x y → Pairwise R (xs ++ x ∷ []) (ys ++ y ∷ [])
pair_more R [] [] x y p r = (r, tt)
pair_more R [] (b ∷ ys) x y p r = absurd p
pair_more R (a ∷ xs) [] x y p r = absurd p
pair_more R (a ∷ xs) (b ∷ ys) x y p r = (p.0, pair_more R xs ys x y p.1 r)

-- they are of one length
pub same_length : {A B : Type 0} (R : A → B → Type 0) (xs : List A) (ys : List B) → Pairwise R xs ys → length xs ≡ length ys
same_length R [] [] p = refl
same_length R [] (b ∷ ys) p = absurd p
same_length R (a ∷ xs) [] p = absurd p
same_length R (a ∷ xs) (b ∷ ys) p = ap suc (same_length R xs ys p.1)

-- what stands at the place of an element goes with it
pub record Partner {A B : Type 0} (R : A → B → Type 0) (ys : List B) (place : ℕ) (x : A) : Type 0 where
  pub other : B
  pub is_there : slice_get ys place ≡ Some other
  pub goes : R x other

pub partner : {A B : Type 0} (R : A → B → Type 0) (xs : List A) (ys : List B) (place : ℕ) (x : A) → Pairwise R xs ys → slice_get xs place ≡ Some x → Partner R ys place x
partner R [] ys place x p is = absurd cc
partner R (a ∷ xs) [] place x p is = absurd p
partner R (a ∷ xs) (b ∷ ys) zero x p is = record { other = b; is_there = refl; goes = subst (λ z. R z b) (cc is) p.0 }
partner R (a ∷ xs) (b ∷ ys) (suc place) x p is = let more = partner R xs ys place x p.1 is in record { other = more.other; is_there = more.is_there; goes = more.goes }

-- another pair at a place
pub pair_set : {A B : Type 0} (R : A → B → Type 0) (xs : List A) (ys : List B) (place : ℕ) (x : A) (y : B) → Pairwise R xs ys → R x y → Pairwise R (set xs place x) (set ys place y)
pair_set R [] [] place x y p r = p
pair_set R [] (b ∷ ys) place x y p r = absurd p
pair_set R (a ∷ xs) [] place x y p r = absurd p
pair_set R (a ∷ xs) (b ∷ ys) zero x y p r = (r, p.1)
pair_set R (a ∷ xs) (b ∷ ys) (suc place) x y p r = (p.0, pair_set R xs ys place x y p.1 r)
