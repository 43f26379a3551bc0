-- Sums over clients.
use Rattle.std.proofs.Common.{◌≡◌, ℕ, ◌+◌, ◌≤◌, Bool, true, false, cond, not, ◌||◌, ⊎_elim, List, [], ◌∷◌, refl, ap, sym, ◌∙◌, subst, arith, eqb, ltb}
use Rattle.std.specs.List.{sum_by, count_by}
use Rattle.std.proofs.Math.Bool.{not-not}
use Rattle.std.proofs.lemmas.Bool.{cond_both, cond-true, cond-false, cases_Bool, or_cases, or_parts, eqb-true}
use Rattle.std.proofs.lemmas.List.Sums.{sum_by-cons, sum_by-le-sum_by}
use Rattle.std.proofs.lemmas.List.Filters.{sum_by-filter_both}
use Rattle.rams_model.specs.Service.{is_among, placed, without}

-- a client's part is within the sum
pub part_of_sum : (f : ℕ → ℕ) (k : ℕ) (ks : List ℕ) → is_among k ks ≡ true → f k ≤ sum_by f ks
part_of_sum f k [] e = absurd cc
part_of_sum f k (j ∷ js) e =
    ⊎_elim (λ t. omega (arith, sum_by-cons f j js, ap f (eqb-true j k t))) (λ r. omega (arith, sum_by-cons f j js, part_of_sum f k js r))
    (or_cases (eqb j k) (is_among k js) e)

-- no part is more
pub all_sum : (f g : ℕ → ℕ) (ks : List ℕ) → ((j : ℕ) → f j ≤ g j) → sum_by f ks ≤ sum_by g ks
all_sum f g ks le = sum_by-le-sum_by f g ks le

-- no part is more, and that of one client is less by d
pub less_by : (f g : ℕ → ℕ) (k d : ℕ) (ks : List ℕ) → ((j : ℕ) → f j ≤ g j) → f k + d ≤ g k → is_among k ks ≡ true → sum_by f ks + d ≤ sum_by g ks
less_by f g k d [] le less e = absurd cc
less_by f g k d (j ∷ js) le less e =
    ⊎_elim (λ t. omega (arith, sum_by-cons f j js, sum_by-cons g j js, less, ap f (eqb-true j k t), ap g (eqb-true j k t), all_sum f g js le))
    (λ r. omega (arith, sum_by-cons f j js, sum_by-cons g j js, le j, less_by f g k d js le less r)) (or_cases (eqb j k) (is_among k js) e)

-- a sum over all but one client
pub sum_without : (f : ℕ → ℕ) (k : ℕ) (ks : List ℕ) → sum_by f (without k ks) ≤ sum_by f ks
sum_without f k ks = omega (arith, sum_by-filter_both (λ j. not (eqb j k)) (λ j. eqb j k) (λ j. sym (not-not (eqb j k))) f ks)

-- a sum over one client more
pub sum_placed : (f : ℕ → ℕ) (k : ℕ) (ks : List ℕ) → sum_by f (placed k ks) ≡ f k + sum_by f ks
sum_placed f k [] = sum_by-cons f k []
sum_placed f k (j ∷ js) =
    cond_both (ltb k j) (k ∷ j ∷ js) (j ∷ placed k js) (λ l. sum_by f l ≡ f k + sum_by f (j ∷ js)) (λ t. sum_by-cons f k (j ∷ js))
    (λ n. omega (arith, sum_by-cons f j (placed k js), sum_placed f k js, sum_by-cons f j js))

-- 1 at one client, 0 at the others
abbrev pub one_at : ℕ → ℕ → ℕ
one_at k j = cond (eqb j k) 1 0

-- how often a client stands among some
abbrev pub times : ℕ → List ℕ → ℕ
times k ks = count_by (λ j. eqb j k) ks

pub times-same : (k j : ℕ) (js : List ℕ) → eqb j k ≡ true → times k (j ∷ js) ≡ times k js + 1
times-same k j js t = omega (arith, sum_by-cons (one_at k) j js, cond-true {A = ℕ} (eqb j k) 1 0 t)

pub times-other : (k j : ℕ) (js : List ℕ) → eqb j k ≡ false → times k (j ∷ js) ≡ times k js
times-other k j js t = omega (arith, sum_by-cons (one_at k) j js, cond-false {A = ℕ} (eqb j k) 1 0 t)

pub times-none : (k : ℕ) (ks : List ℕ) → is_among k ks ≡ false → times k ks ≡ 0
times-none k [] none = refl
times-none k (j ∷ js) none = let parts = or_parts (eqb j k) (is_among k js) none in times-other k j js parts.0 ∙ times-none k js parts.1

pub times-among : (k : ℕ) (ks : List ℕ) → is_among k ks ≡ true → 1 ≤ times k ks
times-among k [] e = absurd cc
times-among k (j ∷ js) e =
    ⊎_elim (λ t. omega (arith, times-same k j js t)) (λ r. omega (arith, sum_by-cons (one_at k) j js, times-among k js r)) (or_cases (eqb j k) (is_among k js) e)

-- no part of the others is more
pub others_sum : (f g : ℕ → ℕ) (k : ℕ) (ks : List ℕ) → times k ks ≡ 0 → ((j : ℕ) → eqb j k ≡ false → f j ≤ g j) → sum_by f ks ≤ sum_by g ks
others_sum f g k [] none le = omega arith
others_sum f g k (j ∷ js) none le =
    ⊎_elim (λ t. absurd (omega (arith, times-same k j js t)))
    (λ o. omega (arith, sum_by-cons f j js, sum_by-cons g j js, le j o, others_sum f g k js (sym (times-other k j js o) ∙ none) le)) (cases_Bool (eqb j k))

-- no part of the others is more, and the client stands at most once: the sum rises no more than its part
pub one_changed : (f g : ℕ → ℕ) (k : ℕ) (ks : List ℕ) → times k ks ≤ 1 → is_among k ks ≡ true → ((j : ℕ) → eqb j k ≡ false → f j ≤ g j) → sum_by f ks + g k ≤ sum_by g ks + f k
one_changed f g k [] once e le = absurd cc
one_changed f g k (j ∷ js) once e le =
    ⊎_elim
    (λ t.
    omega (arith, sum_by-cons f j js, sum_by-cons g j js, ap f (eqb-true j k t), ap g (eqb-true j k t), others_sum f g k js (omega (arith, times-same k j js t)) le))
    (λ o.
    omega (arith, sum_by-cons f j js, sum_by-cons g j js, le j o, one_changed f g k js (omega (arith, times-other k j js o)) (subst (λ (b : Bool). (b || is_among k js) ≡ true) o e) le))
    (cases_Bool (eqb j k))
