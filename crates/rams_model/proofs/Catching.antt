-- The law of catching up.
use Rattle.std.proofs.Common.{◌≡◌, ℕ, zero, suc, ◌+◌, ◌*◌, ◌<◌, ◌≤◌, ◌⊎◌, ⊎_elim, inl, inr, List, [], ◌∷◌, drop, arith, suc-mul}
use Rattle.rams_model.specs.Laws.{CatchesUp, NothingIsLeft}

abbrev Pair : Type 0
Pair = ℕ × ℕ

-- where nothing is left, nothing is left later
none_later : (gain : ℕ) (p : Pair) (ps : List Pair) → CatchesUp gain (p ∷ ps) → p.0 ≡ 0 → NothingIsLeft (p ∷ ps)
none_later gain p [] c e = (e, tt)
none_later gain p (q ∷ ps) c e = (e, none_later gain q ps c.1 (⊎_elim (λ z. z) (λ n. omega (arith, n.0, e)) c.0))

later_ones : (steps : ℕ) (ps : List Pair) → NothingIsLeft ps → NothingIsLeft (drop steps ps)
later_ones zero ps n = n
later_ones (suc steps) [] n = tt
later_ones (suc steps) (p ∷ ps) n = later_ones steps ps n.1

-- what the steps so far leave: nothing, or more than is kept, and no more than the steps that are left gain
abbrev Behind : ℕ → ℕ → Pair → Type 0
Behind gain steps p = (p.0 ≡ 0) ⊎ ((p.1 < p.0) × (p.0 ≤ steps * gain + p.1))

catching : (gain steps : ℕ) (p : Pair) (ps : List Pair) → CatchesUp gain (p ∷ ps) → Behind gain steps p → NothingIsLeft (drop steps (p ∷ ps))
catching gain zero p ps c b = none_later gain p ps c (⊎_elim (λ z. z) (λ m. absurd (omega (arith, m.0, m.1))) b)
catching gain (suc steps) p [] c b = later_ones steps [] tt
catching gain (suc steps) p (q ∷ ps) c b =
    let product = suc-mul steps gain in
    catching gain steps q ps c.1
    (⊎_elim (λ z. inl (⊎_elim (λ zq. zq) (λ n. omega (arith, n.0, z)) c.0))
    (λ m. ⊎_elim (λ zq. inl zq) (λ n. inr (n.1, omega (arith, n.2, m.1, product))) c.0) b)

pub catching_up_ends : (gain steps : ℕ) (p : Pair) (ps : List Pair) → CatchesUp gain (p ∷ ps) → p.0 ≤ steps * gain → NothingIsLeft (drop steps (p ∷ ps))
catching_up_ends gain zero p ps c le = none_later gain p ps c (omega (arith, le))
catching_up_ends gain (suc steps) p [] c le = later_ones steps [] tt
catching_up_ends gain (suc steps) p (q ∷ ps) c le =
    let product = suc-mul steps gain in
    catching gain steps q ps c.1 (⊎_elim (λ zq. inl zq) (λ n. inr (n.1, omega (arith, n.2, le, product))) c.0)
