-- What the joined list has left, one client after another.
use Rattle.std.proofs.Common.{◌≡◌, ℕ, ◌+◌, ◌≤◌, List, [], ◌∷◌, length, Option, Some, None, IsSome, MatchOption, refl, sym, subst, arith}
use Rattle.std.specs.Borrow.{Bor}
use Rattle.client_table.specs.declared.entry.Entry.{Entry}
use Rattle.client_table.specs.{before, joined}

module _ (at : ℕ → Option Entry) where
  before_few : (client : ℕ) (slot : Option Entry) (known : List (ℕ × Entry)) (n : ℕ) → length known ≤ n → length (before client slot known) ≤ n + 1
  before_few client None known n few = omega arith
  before_few client (Some entry) known n few = omega arith

  few_joined : (es : List (ℕ × ℕ)) → length (joined at es) ≤ length es
  few_joined [] = omega arith
  few_joined (e ∷ es) = let few = before_few e.0 (at e.1) (joined at es) (length es) (few_joined es) in omega (arith, few)

  -- where each client has an entry, the first one has
  first_some : (client : ℕ) (slot : Option Entry) (known : List (ℕ × Entry)) (n : ℕ) → length (before client slot known) ≡ n + 1 → length known ≤ n → IsSome slot × (length known ≡ n)
  first_some client None known n all few = absurd (omega arith)
  first_some client (Some entry) known n all few = (refl, omega arith)

  pub front_some : (e : ℕ × ℕ) (es : List (ℕ × ℕ)) → length (joined at (e ∷ es)) ≡ length (e ∷ es) → IsSome (at e.1) × (length (joined at es) ≡ length es)
  front_some e es all = first_some e.0 (at e.1) (joined at es) (length es) (omega (arith, all)) (few_joined es)

  -- so has each of those behind it
  pub all_left : {R : Type 0} (pair : R → ℕ × ℕ) (r : Option R) (es left : List (ℕ × ℕ)) → MatchOption r ((es ≡ []) × (left ≡ [])) (λ x. es ≡ pair x ∷ left) → length (joined at es) ≡ length es → length (joined at left) ≡ length left
  all_left pair None es left step all = rw step.1
  all_left pair (Some x) es left step all = (front_some (pair x) left (subst (λ (l : List (ℕ × ℕ)). length (joined at l) ≡ length l) step all)).1

  -- the same of an iterator over a slice
  pub all_left_of : {I : Type 0} (rest : I → List (ℕ × ℕ)) (r : Option (Bor (ℕ × ℕ))) (s t : I) → MatchOption r ((length (rest s) ≡ 0) × (t ≡ s)) (λ x. rest s ≡ x.now ∷ rest t)
      → length (joined at (rest s)) ≡ length (rest s) → length (joined at (rest t)) ≡ length (rest t)
  all_left_of {I} rest None s t step all = subst (λ (i : I). length (joined at (rest i)) ≡ length (rest i)) (sym step.1) all
  all_left_of rest (Some x) s t step all = (front_some x.now (rest t) (subst (λ (l : List (ℕ × ℕ)). length (joined at l) ≡ length l) step all)).1
