-- The awaited number is the least that is missing.
use Rattle.std.proofs.Common.{◌≡◌, ℕ, zero, suc, ◌+◌, ◌-◌, ◌≤◌, Bool, true, false, not, List, ◌∷◌, subst, arith, leb, ⊎_elim}
use Rattle.std.proofs.lemmas.Bool.{cond_both, both_ways, le-leb, and_from, not_from_false, cases_eq}
use Rattle.rams_model.specs.declared.held.Held.{Held}
use Rattle.rams_model.specs.Packets.{hi, has_number, least, is_missing, awaited}
use Rattle.rams_model.specs.Laws.{Rises}
use Rattle.rams_model.proofs.Rising.{below_hi, none_at_hi}

pub least_from_start : (test : ℕ → Bool) (n count : ℕ) → n ≤ least test n count
least_from_start test n zero = omega arith
least_from_start test n (suc count) =
    cond_both (test n) n (least test (n + 1) count) (λ m. n ≤ m) (λ t. omega arith) (λ f. let le = least_from_start test (n + 1) count in omega (arith, le))

least_passes : (test : ℕ → Bool) (n count : ℕ) → test (n + count) ≡ true → test (least test n count) ≡ true
least_passes test n zero e = subst (λ (m : ℕ). test m ≡ true) (omega arith) e
least_passes test n (suc count) e =
    cond_both (test n) n (least test (n + 1) count) (λ m. test m ≡ true) (λ t. t)
    (λ f. least_passes test (n + 1) count (subst (λ (m : ℕ). test m ≡ true) (omega arith) e))

least_is_least : (test : ℕ → Bool) (n count m : ℕ) → n ≤ m → test m ≡ true → least test n count ≤ m
least_is_least test n zero m le e = le
least_is_least test n (suc count) m le e =
    cond_both (test n) n (least test (n + 1) count) (λ k. k ≤ m) (λ t. le)
    (λ f. ⊎_elim (λ same. absurd (both_ways (test m) (subst (λ (k : ℕ). test k ≡ false) same f) e))
    (λ other. least_is_least test (n + 1) count m (omega (arith, other, le)) e) (cases_eq n m))

-- the number after the greatest is missing
missing_at_hi : (window n : ℕ) (h : Held) (hs : List Held) → Rises n (h ∷ hs) → is_missing window (h ∷ hs) (hi (h ∷ hs)) ≡ true
missing_at_hi window n h hs r =
    and_from (not (has_number (hi (h ∷ hs)) (h ∷ hs))) (leb (hi (h ∷ hs) - 1 - window) (hi (h ∷ hs)))
    (not_from_false (has_number (hi (h ∷ hs)) (h ∷ hs)) (none_at_hi n (hi (h ∷ hs)) (h ∷ hs) r (omega arith)))
    (le-leb (hi (h ∷ hs) - 1 - window) (hi (h ∷ hs)) (omega arith))

pub from_first : (window : ℕ) (h : Held) (hs : List Held) → h.n ≤ awaited window (h ∷ hs)
unfolding awaited
from_first window h hs = least_from_start (is_missing window (h ∷ hs)) h.n (hi (h ∷ hs) - h.n)

pub is_missing_itself : (window n : ℕ) (h : Held) (hs : List Held) → Rises n (h ∷ hs) → is_missing window (h ∷ hs) (awaited window (h ∷ hs)) ≡ true
unfolding awaited
is_missing_itself window n h hs r =
    let lt = below_hi n h hs r in
    let sum : hi (h ∷ hs) ≡ h.n + (hi (h ∷ hs) - h.n) = omega (arith, lt) in
    least_passes (is_missing window (h ∷ hs)) h.n (hi (h ∷ hs) - h.n) (subst (λ (m : ℕ). is_missing window (h ∷ hs) m ≡ true) sum (missing_at_hi window n h hs r))

pub none_before : (window : ℕ) (h : Held) (hs : List Held) (m : ℕ) → h.n ≤ m → is_missing window (h ∷ hs) m ≡ true → awaited window (h ∷ hs) ≤ m
unfolding awaited
none_before window h hs m le e = least_is_least (is_missing window (h ∷ hs)) h.n (hi (h ∷ hs) - h.n) m le e
