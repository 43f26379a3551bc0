-- Items by rising number: one more of them, and which numbers they have.
use Rattle.std.proofs.Common.{◌≡◌, ℕ, ◌+◌, ◌<◌, ◌≤◌, ◌⊎◌, max, Bool, true, false, ◌==◌, ◌||◌, nat_lt, if◌then◌else◌, List, [], ◌∷◌, ◌++◌, length, refl, ◌∙◌, ap, inl, inr, arith}
use Rattle.std.proofs.lemmas.Bool.Decides.{nat_tests}
use Rattle.std.proofs.lemmas.Bool.{or_from, or_parts}
use Rattle.channel_cache.specs.reorder_window.{has_number, with_item, last_number, RisesIn}
use Rattle.rams_model.proofs.ListFacts.{or_swap}

pub rises_up : {T : Type 0} (lo hi : ℕ) (es : List (ℕ × T)) → RisesIn lo hi es → lo ≤ hi
rises_up lo hi [] rises = rises
rises_up lo hi (e ∷ es) rises = omega (arith, rises.0, rises_up (e.0 + 1) hi es rises.1)

-- as many as there is room for
pub rises-length : {T : Type 0} (lo hi : ℕ) (es : List (ℕ × T)) → RisesIn lo hi es → lo + length es ≤ hi
rises-length lo hi [] rises = omega (arith, rises)
rises-length lo hi (e ∷ es) rises = omega (arith, rises.0, rises-length (e.0 + 1) hi es rises.1)

pub rises-wider : {T : Type 0} (lo hi down up : ℕ) (es : List (ℕ × T)) → down ≤ lo → hi ≤ up → RisesIn lo hi es → RisesIn down up es
rises-wider lo hi down up [] below above rises = omega (arith, rises)
rises-wider lo hi down up (e ∷ es) below above rises = (omega (arith, rises.0), rises-wider (e.0 + 1) hi (e.0 + 1) up es (omega arith) above rises.1)

pub rises-append : {T : Type 0} (lo mid hi : ℕ) (xs ys : List (ℕ × T)) → RisesIn lo mid xs → RisesIn mid hi ys → RisesIn lo hi (xs ++ ys)
rises-append lo mid hi [] ys low high = rises-wider mid hi lo hi ys low (omega arith) high
rises-append lo mid hi (x ∷ xs) ys low high = (low.0, rises-append (x.0 + 1) mid hi xs ys low.1 high)

-- the front of items, up to one
pub rises_front : {T : Type 0} (lo hi bound : ℕ) (xs : List (ℕ × T)) (e : ℕ × T) (ys : List (ℕ × T)) → e.0 < bound → RisesIn lo hi (xs ++ e ∷ ys) → RisesIn lo bound (xs ++ e ∷ [])
rises_front lo hi bound [] e ys below rises = (rises.0, omega arith)
rises_front lo hi bound (x ∷ xs) e ys below rises = (rises.0, rises_front (x.0 + 1) hi bound xs e ys below rises.1)

-- and the end behind some
pub rises_end : {T : Type 0} (lo hi : ℕ) (xs ys : List (ℕ × T)) → RisesIn lo hi (xs ++ ys) → RisesIn lo hi ys
rises_end lo hi [] ys rises = rises
rises_end lo hi (x ∷ xs) ys rises = rises-wider (x.0 + 1) hi lo hi ys (omega (arith, rises.0)) (omega arith) (rises_end (x.0 + 1) hi xs ys rises.1)

-- ---- the numbers that the items have
pub or_assoc : (a b c : Bool) → (a || (b || c)) ≡ ((a || b) || c)
or_assoc true b c = refl
or_assoc false b c = refl

pub differs : (m n : ℕ) → (m == n) ≡ false → (m < n) ⊎ (n < m)
differs m n isnt = grind (arith, nat_tests)

pub has-higher : {T : Type 0} (k lo hi : ℕ) (es : List (ℕ × T)) → RisesIn lo hi es → hi ≤ k → has_number k es ≡ false
has-higher k lo hi [] rises above = refl
has-higher k lo hi (e ∷ es) rises above =
    or_from (e.0 == k) (has_number k es) (let apart : e.0 < k = omega (arith, rises_up (e.0 + 1) hi es rises.1) in grind (arith, nat_tests)) (has-higher k (e.0 + 1) hi es rises.1 above)

pub has-append : {T : Type 0} (k : ℕ) (xs ys : List (ℕ × T)) → has_number k (xs ++ ys) ≡ (has_number k xs || has_number k ys)
has-append k [] ys = refl
has-append k (x ∷ xs) ys = ap (λ b. (x.0 == k) || b) (has-append k xs ys) ∙ or_assoc (x.0 == k) (has_number k xs) (has_number k ys)

pub has_with_step : {T : Type 0} (k n : ℕ) (item : T) (e : ℕ × T) (es : List (ℕ × T)) (b : Bool) → has_number k (with_item n item es) ≡ ((n == k) || has_number k es) → has_number k (if b then (n, item) ∷ e ∷ es else e ∷ with_item n item es) ≡ ((n == k) || ((e.0 == k) || has_number k es))
has_with_step k n item e es true is = refl
has_with_step k n item e es false is = ap (λ b. (e.0 == k) || b) is ∙ or_swap (e.0 == k) (n == k) (has_number k es)

pub has-with_item : {T : Type 0} (k n : ℕ) (item : T) (es : List (ℕ × T)) → has_number k (with_item n item es) ≡ ((n == k) || has_number k es)
has-with_item k n item [] = refl
has-with_item k n item (e ∷ es) = has_with_step k n item e es (nat_lt n e.0) (has-with_item k n item es)

-- ---- one more item
pub length_with_step : {T : Type 0} (n : ℕ) (item : T) (e : ℕ × T) (es : List (ℕ × T)) (b : Bool) → length (with_item n item es) ≡ length es + 1 → length (if b then (n, item) ∷ e ∷ es else e ∷ with_item n item es) ≡ length (e ∷ es) + 1
length_with_step n item e es true is = omega arith
length_with_step n item e es false is = omega (arith, is)

pub length-with_item : {T : Type 0} (n : ℕ) (item : T) (es : List (ℕ × T)) → length (with_item n item es) ≡ length es + 1
length-with_item n item [] = refl
length-with_item n item (e ∷ es) = length_with_step n item e es (nat_lt n e.0) (length-with_item n item es)

-- where the two differ, the greater goes behind the other
pub rises_with_step : {T : Type 0} (lo hi n : ℕ) (item : T) (e : ℕ × T) (es : List (ℕ × T)) (b : Bool) → nat_lt n e.0 ≡ b → RisesIn lo hi (e ∷ es) → lo ≤ n → (e.0 < n) ⊎ (n < e.0) → (e.0 + 1 ≤ n → RisesIn (e.0 + 1) hi (with_item n item es)) → RisesIn lo hi (if b then (n, item) ∷ e ∷ es else e ∷ with_item n item es)
rises_with_step lo hi n item e es true test rises from apart rest = (from, (grind (arith, nat_tests), rises.1))
rises_with_step lo hi n item e es false test rises from (inl less) rest = (rises.0, rest (omega arith))
rises_with_step lo hi n item e es false test rises from (inr more) rest = absurd (grind (arith, nat_tests))

pub rises-with_item : {T : Type 0} (lo hi n : ℕ) (item : T) (es : List (ℕ × T)) → RisesIn lo hi es → has_number n es ≡ false → lo ≤ n → n < hi → RisesIn lo hi (with_item n item es)
rises-with_item lo hi n item [] rises new from below = (from, omega arith)
rises-with_item lo hi n item (e ∷ es) rises new from below =
    rises_with_step lo hi n item e es (nat_lt n e.0) refl rises from (differs e.0 n (or_parts (e.0 == n) (has_number n es) new).0)
    (λ above. rises-with_item (e.0 + 1) hi n item es rises.1 (or_parts (e.0 == n) (has_number n es) new).1 above below)

pub behind_step : {T : Type 0} (n : ℕ) (item : T) (x : ℕ × T) (xs ys : List (ℕ × T)) (b : Bool) → b ≡ false → with_item n item (xs ++ ys) ≡ xs ++ with_item n item ys → (if b then (n, item) ∷ x ∷ (xs ++ ys) else x ∷ with_item n item (xs ++ ys)) ≡ x ∷ (xs ++ with_item n item ys)
behind_step n item x xs ys true isnt is = cc
behind_step n item x xs ys false isnt is = ap (λ es. x ∷ es) is

-- an item above the items in front of others stands among the others
pub with_item-append : {T : Type 0} (lo mid n : ℕ) (item : T) (xs ys : List (ℕ × T)) → RisesIn lo mid xs → mid ≤ n → with_item n item (xs ++ ys) ≡ xs ++ with_item n item ys
with_item-append lo mid n item [] ys rises above = refl
with_item-append lo mid n item (x ∷ xs) ys rises above =
    let low : x.0 < n = omega (arith, rises_up (x.0 + 1) mid xs rises.1) in
    behind_step n item x xs ys (nat_lt n x.0) (grind (arith, nat_tests)) (with_item-append (x.0 + 1) mid n item xs ys rises.1 above)

-- the front of some
pub rises_before : {T : Type 0} (lo hi : ℕ) (xs ys : List (ℕ × T)) → RisesIn lo hi (xs ++ ys) → RisesIn lo hi xs
rises_before lo hi [] ys rises = rises_up lo hi ys rises
rises_before lo hi (x ∷ xs) ys rises = (rises.0, rises_before (x.0 + 1) hi xs ys rises.1)

-- ---- the last number
pub last-from : {T : Type 0} (first hi : ℕ) (es : List (ℕ × T)) → RisesIn first hi es → first ≤ last_number first es
last-from first hi [] rises = omega arith
last-from first hi (e ∷ es) rises = omega (arith, rises.0, last-from e.0 hi es (rises-wider (e.0 + 1) hi e.0 hi es (omega arith) (omega arith) rises.1))

pub last_with_step : {T : Type 0} (n hi : ℕ) (item : T) (e : ℕ × T) (es : List (ℕ × T)) (b : Bool) → nat_lt n e.0 ≡ b → RisesIn (e.0 + 1) hi es → (e.0 ≤ n → last_number e.0 (with_item n item es) ≡ max (last_number e.0 es) n) → (first : ℕ) → last_number first (if b then (n, item) ∷ e ∷ es else e ∷ with_item n item es) ≡ max (last_number e.0 es) n
last_with_step n hi item e es true test rises rest first =
    let low : n < e.0 = grind (arith, nat_tests) in
    omega (arith, last-from e.0 hi es (rises-wider (e.0 + 1) hi e.0 hi es (omega arith) (omega arith) rises))
last_with_step n hi item e es false test rises rest first = rest (grind (arith, nat_tests))

-- with one more it is the greater of the two
pub last-with_item : {T : Type 0} (first hi n : ℕ) (item : T) (es : List (ℕ × T)) → RisesIn first hi es → first ≤ n → last_number first (with_item n item es) ≡ max (last_number first es) n
last-with_item first hi n item [] rises from = omega arith
last-with_item first hi n item (e ∷ es) rises from =
    last_with_step n hi item e es (nat_lt n e.0) refl rises.1 (λ above. last-with_item e.0 hi n item es (rises-wider (e.0 + 1) hi e.0 hi es (omega arith) (omega arith) rises.1) above) first
