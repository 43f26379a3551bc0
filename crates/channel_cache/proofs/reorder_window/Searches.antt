-- The searches for the least number: that of the definitions, and that of the window.
use Rattle.std.proofs.Common.{◌≡◌, ℕ, zero, suc, ◌+◌, ◌<◌, ◌≤◌, ◌⊎◌, Bool, true, false, ◌==◌, ◌||◌, not, nat_lt, if◌then◌else◌, List, [], ◌∷◌, refl, ◌∙◌, ap, inl, inr, subst, arith}
use Rattle.std.proofs.lemmas.Bool.{cases_lt, or_right, or_from}
use Rattle.std.proofs.lemmas.Bool.Decides.{nat_tests}
use Rattle.std.specs.Prelude.{insert}
use Rattle.std.specs.List.{position_or_len}
use Rattle.rams_model.specs.Packets.{least}
use Rattle.channel_cache.specs.reorder_window.{has_number, with_item, RisesIn, next_missing}
use Rattle.channel_cache.proofs.reorder_window.Rising.{rises_up}

-- ---- the least number that passes a test
-- none below it passes
pub below_step : (test : ℕ → Bool) (n count k : ℕ) (b : Bool) → test n ≡ b → n ≤ k → k < (if b then n else least test (n + 1) count) → (n + 1 ≤ k → k < least test (n + 1) count → test k ≡ false) → (k < n + 1) ⊎ (n + 1 ≤ k) → test k ≡ false
below_step test n count k true is from below rest which = absurd (omega arith)
below_step test n count k false is from below rest (inl low) = let same : n ≡ k = omega arith in subst (λ (j : ℕ). test j ≡ false) same is
below_step test n count k false is from below rest (inr high) = rest high below

pub least-below : (test : ℕ → Bool) (n count k : ℕ) → n ≤ k → k < least test n count → test k ≡ false
least-below test n zero k from below = absurd (omega arith)
least-below test n (suc count) k from below = below_step test n count k (test n) refl from below (least-below test (n + 1) count k) (cases_lt k (n + 1))

-- a number that passes, where none below it does, is the least
pub is_step : (test : ℕ → Bool) (n count m : ℕ) (b : Bool) → test n ≡ b → n ≤ m → (n < m → test n ≡ false) → test m ≡ true → (n < m → least test (n + 1) count ≡ m) → (m < n + 1) ⊎ (n + 1 ≤ m) → (if b then n else least test (n + 1) count) ≡ m
is_step test n count m true is from none pass rest (inl low) = omega arith
is_step test n count m true is from none pass rest (inr high) = let no = none (omega arith) in cc
is_step test n count m false is from none pass rest (inl low) = let same : n ≡ m = omega arith in let no = subst (λ (j : ℕ). test j ≡ false) same is in cc
is_step test n count m false is from none pass rest (inr high) = rest (omega arith)

pub least-is : (test : ℕ → Bool) (n count m : ℕ) → n ≤ m → m ≤ n + count → ((k : ℕ) → n ≤ k → k < m → test k ≡ false) → test m ≡ true → least test n count ≡ m
least-is test n zero m from within none pass = omega arith
least-is test n (suc count) m from within none pass =
    is_step test n count m (test n) refl from (λ less. none n (omega arith) less) pass
    (λ less. least-is test (n + 1) count m (omega arith) (omega arith) (λ k up down. none k (omega arith) down) pass) (cases_lt m (n + 1))

pub next-from : {T : Type 0} (n : ℕ) (es : List (ℕ × T)) → n ≤ next_missing n es
next-from n [] = omega arith
next-from n (e ∷ es) = next_from_step n (e.0 == n) es (next-from n es) (next-from (n + 1) es)
  where
    next_from_step : {T : Type 0} (n : ℕ) (b : Bool) (es : List (ℕ × T)) → n ≤ next_missing n es → n + 1 ≤ next_missing (n + 1) es → n ≤ next_missing (if b then n + 1 else n) es
    next_from_step n true es same up = omega (arith, up)
    next_from_step n false es same up = same

-- the items have all before it
pub next_has_step : {T : Type 0} (n k : ℕ) (e : ℕ × T) (es : List (ℕ × T)) (b : Bool) → (e.0 == n) ≡ b → n ≤ k → k < next_missing (if b then n + 1 else n) es
    → (k < next_missing n es → has_number k es ≡ true) → (n + 1 ≤ k → k < next_missing (n + 1) es → has_number k es ≡ true) → (k < n + 1) ⊎ (n + 1 ≤ k) → ((e.0 == k) || has_number k es) ≡ true
next_has_step n k e es true is from below same up (inl low) = let one : e.0 ≡ k = grind (arith, nat_tests) in grind (arith, nat_tests)
next_has_step n k e es true is from below same up (inr high) = or_right (e.0 == k) (has_number k es) (up high below)
next_has_step n k e es false is from below same up which = or_right (e.0 == k) (has_number k es) (same below)

pub next-has : {T : Type 0} (n k : ℕ) (es : List (ℕ × T)) → n ≤ k → k < next_missing n es → has_number k es ≡ true
next-has n k [] from below = absurd (omega arith)
next-has n k (e ∷ es) from below = next_has_step n k e es (e.0 == n) refl from below (next-has n k es from) (next-has (n + 1) k es) (cases_lt k (n + 1))

-- where all are above, it stays
pub stay_step : {T : Type 0} (n : ℕ) (es : List (ℕ × T)) (b : Bool) → b ≡ false → next_missing n es ≡ n → next_missing (if b then n + 1 else n) es ≡ n
stay_step n es true isnt is = cc
stay_step n es false isnt is = is

pub next-stays : {T : Type 0} (lo hi n : ℕ) (es : List (ℕ × T)) → RisesIn lo hi es → n < lo → next_missing n es ≡ n
next-stays lo hi n [] rises below = refl
next-stays lo hi n (e ∷ es) rises below =
    let apart : n < e.0 = omega (arith, rises.0) in
    stay_step n es (e.0 == n) (grind (arith, nat_tests)) (next-stays (e.0 + 1) hi n es rises.1 (omega arith))

-- and no item has it
pub next_none_step : {T : Type 0} (hi n : ℕ) (e : ℕ × T) (es : List (ℕ × T)) (b : Bool) → (e.0 == n) ≡ b → RisesIn (e.0 + 1) hi es → has_number (next_missing n es) es ≡ false → has_number (next_missing (n + 1) es) es ≡ false → (e.0 < n) ⊎ (n ≤ e.0)
    → ((e.0 == next_missing (if b then n + 1 else n) es) || has_number (next_missing (if b then n + 1 else n) es) es) ≡ false
next_none_step hi n e es true is rises same up which =
    let less : e.0 < next_missing (n + 1) es = grind (arith, nat_tests, next-from (n + 1) es) in
    or_from (e.0 == next_missing (n + 1) es) (has_number (next_missing (n + 1) es) es) (grind (arith, nat_tests)) up
next_none_step hi n e es false is rises same up (inl low) =
    let less : e.0 < next_missing n es = omega (arith, next-from n es) in
    or_from (e.0 == next_missing n es) (has_number (next_missing n es) es) (grind (arith, nat_tests)) same
next_none_step hi n e es false is rises same up (inr high) =
    let stays = next-stays (e.0 + 1) hi n es rises (omega arith) in
    or_from (e.0 == next_missing n es) (has_number (next_missing n es) es) (ap (λ m. e.0 == m) stays ∙ is) same

pub next-none : {T : Type 0} (lo hi n : ℕ) (es : List (ℕ × T)) → RisesIn lo hi es → has_number (next_missing n es) es ≡ false
next-none lo hi n [] rises = refl
next-none lo hi n (e ∷ es) rises =
    next_none_step hi n e es (e.0 == n) refl rises.1 (next-none (e.0 + 1) hi n es rises.1) (next-none (e.0 + 1) hi (n + 1) es rises.1) (cases_lt e.0 n)

-- nor is it above the end
pub next_end_step : {T : Type 0} (hi n : ℕ) (e : ℕ × T) (es : List (ℕ × T)) (b : Bool) → (e.0 == n) ≡ b → e.0 + 1 ≤ hi → (n + 1 ≤ hi → next_missing (n + 1) es ≤ hi) → next_missing n es ≤ hi → next_missing (if b then n + 1 else n) es ≤ hi
next_end_step hi n e es true is within up same = up (grind (arith, nat_tests))
next_end_step hi n e es false is within up same = same

pub next-end : {T : Type 0} (lo hi n : ℕ) (es : List (ℕ × T)) → RisesIn lo hi es → n ≤ hi → next_missing n es ≤ hi
next-end lo hi n [] rises within = within
next-end lo hi n (e ∷ es) rises within =
    next_end_step hi n e es (e.0 == n) refl (rises_up (e.0 + 1) hi es rises.1) (next-end (e.0 + 1) hi (n + 1) es rises.1) (next-end (e.0 + 1) hi n es rises.1 within)

-- ---- an item at its place
pub placed_step : {T : Type 0} (n place : ℕ) (item : T) (e : ℕ × T) (es : List (ℕ × T)) (b : Bool) → insert es place (n, item) ≡ with_item n item es → insert (e ∷ es) (if not b then 1 + place else 0) (n, item) ≡ (if b then (n, item) ∷ e ∷ es else e ∷ with_item n item es)
placed_step n place item e es true is = refl
placed_step n place item e es false is = let further : 1 + place ≡ suc place = omega arith in ap (λ k. insert (e ∷ es) k (n, item)) further ∙ ap (λ xs. e ∷ xs) is

pub insert-is : {T : Type 0} (n : ℕ) (item : T) (es : List (ℕ × T)) → insert es (position_or_len (λ e. nat_lt n e.0) es) (n, item) ≡ with_item n item es
insert-is n item [] = refl
insert-is n item (e ∷ es) = placed_step n (position_or_len (λ e. nat_lt n e.0) es) item e es (nat_lt n e.0) (insert-is n item es)
