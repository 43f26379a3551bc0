-- Numbers in which another isn't, block by block.
use Rattle.std.proofs.Common.{◌≡◌, ◌≢◌, ℕ, ◌+◌, false, ◌==◌, All, List, [], ◌∷◌, take, drop, sym, subst, take-add}
use Rattle.std.specs.List.{list_any}
use Rattle.std.proofs.lemmas.Bool.{eqb-false, or_parts}
use Rattle.std.proofs.lemmas.List.Elements.{All-nil, All-cons, All-append}

pub in_none : (id : ℕ) (xs : List ℕ) → list_any (λ k. k == id) xs ≡ false → All (λ k. k ≢ id) xs
in_none id [] none = All-nil (λ k. k ≢ id)
in_none id (x ∷ xs) none =
    let parts = or_parts (x == id) (list_any (λ k. k == id) xs) none in All-cons (λ k. k ≢ id) x xs (eqb-false x id parts.0) (in_none id xs parts.1)

pub passed_more : (id from count : ℕ) (ids : List ℕ) → All (λ k. k ≢ id) (take from ids) → list_any (λ k. k == id) (take count (drop from ids)) ≡ false → All (λ k. k ≢ id) (take (from + count) ids)
passed_more id from count ids front none =
    subst (All (λ k. k ≢ id)) (sym (take-add from count ids)) (All-append (λ k. k ≢ id) (take from ids) (take count (drop from ids)) front (in_none id (take count (drop from ids)) none))
