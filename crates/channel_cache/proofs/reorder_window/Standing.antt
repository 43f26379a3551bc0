-- A window goes on to stand for the items in time.
use Rattle.std.proofs.Common.{◌≡◌, ℕ, ◌+◌, ◌-◌, ◌<◌, ◌≤◌, ◌⊎◌, max, Bool, true, false, ◌==◌, ◌||◌, ◌&&◌, not, nat_lt, nat_le, if◌then◌else◌, List, [], ◌∷◌, ◌++◌, drop, filter, Some, None, refl, sym, ◌∙◌, ap, inl, inr, subst, append_assoc, append-nil, arith}
use Rattle.std.specs.Prelude.{MatchOption}
use Rattle.std.proofs.lemmas.Bool.{cases_lt, or_right, or_from}
use Rattle.std.proofs.lemmas.Bool.Decides.{nat_tests}
use Rattle.channel_cache.specs.declared.reorder_window.window.Came.TheVariants.{Kept, Late, Twice}
use Rattle.channel_cache.specs.reorder_window.{Start, has_number, with_item, last_number, is_missing, awaited, came, start_after, released, begun, next_missing, keeping, came_of, arrived, is_free, free_of, first_free, without, after_release, RisesIn, IsWindow, StandsFor}
use Rattle.channel_cache.specs.reorder_window.Seen.{Seen}
use Rattle.channel_cache.proofs.reorder_window.Rising.{rises_up, rises-wider, rises-append, rises_front, rises_end, rises_before, rises-with_item, has-higher, has-append, has-with_item, with_item-append, last-with_item}
use Rattle.channel_cache.proofs.reorder_window.Searches.{least-below, least-is, next-from, next-has, next-none, next-end}
use Rattle.channel_cache.proofs.reorder_window.Keeping.{not_free_step, rises_settled}

-- ---- the two halves of `is_missing`
pub missing_not : (has : Bool) (low k : ℕ) → (has ≡ true) ⊎ (k < low) → (not has && nat_le low k) ≡ false
missing_not true low k why = refl
missing_not false low k (inl has) = cc
missing_not false low k (inr below) = grind (arith, nat_tests)

pub missing_is : (has : Bool) (low k : ℕ) → has ≡ false → low ≤ k → (not has && nat_le low k) ≡ true
missing_is true low k isnt from = cc
missing_is false low k isnt from = grind (arith, nat_tests)

pub missing_why : (has : Bool) (low k : ℕ) → (not has && nat_le low k) ≡ false → (has ≡ true) ⊎ (k < low)
missing_why true low k isnt = inl refl
missing_why false low k isnt = inr (grind (arith, nat_tests))

-- ---- while the start goes on
pub due_of : {T : Type 0} (b : Bool) (lo over on : ℕ) (out : List (ℕ × T)) → b ≡ false → RisesIn lo (if b then over else on) out → RisesIn lo on out
due_of true lo over on out isnt rises = absurd cc
due_of false lo over on out isnt rises = rises

pub due_to : {T : Type 0} (b : Bool) (lo over on : ℕ) (out : List (ℕ × T)) → b ≡ false → RisesIn lo on out → RisesIn lo (if b then over else on) out
due_to true lo over on out isnt rises = absurd cc
due_to false lo over on out isnt rises = rises

-- ---- what becomes of an item
pub came_step : (late known late' known' : Bool) → late ≡ late' → (late ≡ false → known ≡ known') → (if late then Late else if known then Twice else Kept) ≡ (if late' then Late else if known' then Twice else Kept)
came_step true known true known' same rest = refl
came_step true known false known' same rest = cc
came_step false known true known' same rest = cc
came_step false known false known' same rest = ap (λ b. if b then Twice else Kept) (rest refl)

-- an item that isn't late is known where it is kept
pub known_same : {T : Type 0} (v : Seen T) (s : Start T) (out : List (ℕ × T)) (n : ℕ) → v.ended ≡ false → StandsFor v s out → v.awaited ≤ n → has_number n v.kept ≡ has_number n s.items
known_same v s out n going stood above =
    let none : has_number n out ≡ false = has-higher n s.first v.awaited out (due_of v.ended s.first (v.greatest + 1) v.awaited out going stood.due) above in
    sym (ap (has_number n) stood.items ∙ (has-append n out v.kept ∙ ap (λ b. b || has_number n v.kept) none))

pub came_same : {T : Type 0} (v : Seen T) (s : Start T) (out : List (ℕ × T)) (n : ℕ) → v.ended ≡ false → StandsFor v s out → came_of v n ≡ came v.width s n
came_same v s out n going stood =
    came_step (nat_lt n v.awaited) (has_number n v.kept) (nat_lt n (awaited v.width s)) (has_number n s.items) (ap (λ a. nat_lt n a) stood.awaited)
    (λ due. known_same v s out n going stood (grind (arith, nat_tests)))

-- ---- one more item
-- the numbers below the new awaited number aren't missing
pub none_before : {T : Type 0} (v : Seen T) (s : Start T) (out : List (ℕ × T)) (n : ℕ) (item : T) → StandsFor v s out → with_item n item s.items ≡ out ++ with_item n item v.kept → last_number s.first (with_item n item s.items) ≡ max v.greatest n
    → (k : ℕ) → s.first ≤ k → k < next_missing (max v.awaited (max v.greatest n - v.width)) (with_item n item v.kept)
    → (k < v.awaited) ⊎ (v.awaited ≤ k) → is_missing v.width (record s { items = with_item n item s.items }) k ≡ false
unfolding awaited
none_before v s out n item stood joined last k from below (inl before) =
    missing_not (has_number k (with_item n item s.items)) (last_number s.first (with_item n item s.items) - v.width) k
    (known_before (missing_why (has_number k s.items) (last_number s.first s.items - v.width) k old))
  where
    old : is_missing v.width s k ≡ false
    old = least-below (is_missing v.width s) s.first (last_number s.first s.items + 1 - s.first) k from (omega (arith, stood.awaited))

    known_before : (has_number k s.items ≡ true) ⊎ (k < last_number s.first s.items - v.width) → (has_number k (with_item n item s.items) ≡ true) ⊎ (k < last_number s.first (with_item n item s.items) - v.width)
    known_before (inl has) = inl (has-with_item k n item s.items ∙ or_right (n == k) (has_number k s.items) has)
    known_before (inr low) = inr (omega (arith, last, stood.greatest))
none_before v s out n item stood joined last k from below (inr behind) =
    missing_not (has_number k (with_item n item s.items)) (last_number s.first (with_item n item s.items) - v.width) k
    (behind_step (cases_lt k (max v.awaited (max v.greatest n - v.width))))
  where
    behind_step : (k < max v.awaited (max v.greatest n - v.width)) ⊎ (max v.awaited (max v.greatest n - v.width) ≤ k) → (has_number k (with_item n item s.items) ≡ true) ⊎ (k < last_number s.first (with_item n item s.items) - v.width)
    behind_step (inl low) = inr (omega (arith, last))
    behind_step (inr high) = inl (ap (has_number k) joined ∙ (has-append k out (with_item n item v.kept) ∙ or_right (has_number k out) (has_number k (with_item n item v.kept)) (next-has (max v.awaited (max v.greatest n - v.width)) k (with_item n item v.kept) high below)))

pub kept_stands : {T : Type 0} (v : Seen T) (s : Start T) (out : List (ℕ × T)) (n : ℕ) (item : T) → IsWindow v → v.ended ≡ false → first_free v ≡ None → v.awaited ≤ n → has_number n v.kept ≡ false → StandsFor v s out → StandsFor (keeping v n item) (record s { items = with_item n item s.items }) out
unfolding awaited
kept_stands {T} v s out n item was going settled above new stood =
    let top : ℕ = max v.greatest n in
    let kept = with_item n item v.kept in
    let from : ℕ = max v.awaited (top - v.width) in
    let m : ℕ = next_missing from kept in
    let items = with_item n item s.items in
    let due = due_of v.ended s.first (v.greatest + 1) v.awaited out going stood.due in
    let waiting : RisesIn v.awaited (v.greatest + 1) v.kept = rises_settled v 0 (v.greatest + 1) v.kept settled was.rises was.next in
    let rises : RisesIn v.awaited (top + 1) kept = rises-with_item v.awaited (top + 1) n item v.kept (rises-wider v.awaited (v.greatest + 1) v.awaited (top + 1) v.kept (omega arith) (omega arith) waiting) new above (omega arith) in
    let joined : items ≡ out ++ kept = ap (with_item n item) stood.items ∙ with_item-append s.first v.awaited n item out v.kept due above in
    let last : last_number s.first items ≡ top = last-with_item s.first (v.greatest + 1) n item s.items stood.rises (omega (arith, stood.from)) ∙ ap (λ g. max g n) (sym stood.greatest) in
    let within : from ≤ top + 1 = omega (arith, was.next) in
    let goes : from ≤ m = next-from from kept in
    let ends : m ≤ top + 1 = next-end v.awaited (top + 1) from kept rises within in
    let none : has_number m items ≡ false =
    ap (has_number m) joined ∙ (has-append m out kept ∙ or_from (has_number m out) (has_number m kept) (has-higher m s.first v.awaited out due (omega arith)) (next-none v.awaited (top + 1) from kept rises)) in
    record {
      items = joined;
      greatest = sym last;
      awaited = sym (least-is (is_missing v.width (record s { items = items })) s.first (last_number s.first items + 1 - s.first) m (omega (arith, stood.from)) (omega (arith, last, stood.from))
          (λ k up down. none_before v s out n item stood joined last k up down (cases_lt k v.awaited))
          (missing_is (has_number m items) (last_number s.first items - v.width) m none (omega (arith, last))));
      from = omega (arith, stood.from);
      rises = subst (λ (es : List (ℕ × T)). RisesIn s.first (top + 1) es) (sym joined) (rises-append s.first v.awaited (top + 1) out kept due rises);
      due = due_to v.ended s.first (top + 1) m out going (rises-wider s.first v.awaited s.first m out (omega arith) (omega arith) due);
    }

-- whatever becomes of it
pub arrived_step : {T : Type 0} (v : Seen T) (s : Start T) (out : List (ℕ × T)) (n : ℕ) (item : T) (late known : Bool) → nat_lt n v.awaited ≡ late → has_number n v.kept ≡ known → StandsFor v s out
    → (v.awaited ≤ n → has_number n v.kept ≡ false → StandsFor (keeping v n item) (record s { items = with_item n item s.items }) out)
    → StandsFor (arrived v n item (if late then Late else if known then Twice else Kept)) (start_after s n item (if late then Late else if known then Twice else Kept)) out
arrived_step v s out n item true known test has stood keep = stood
arrived_step v s out n item false true test has stood keep = stood
arrived_step v s out n item false false test has stood keep = keep (grind (arith, nat_tests)) has

pub arrived_stands : {T : Type 0} (v : Seen T) (s : Start T) (out : List (ℕ × T)) (n : ℕ) (item : T) → IsWindow v → v.ended ≡ false → first_free v ≡ None → StandsFor v s out → StandsFor (arrived v n item (came_of v n)) (start_after s n item (came_of v n)) out
arrived_stands v s out n item was going settled stood =
    arrived_step v s out n item (nat_lt n v.awaited) (has_number n v.kept) refl refl stood (λ above new. kept_stands v s out n item was going settled above new stood)

-- ---- a start begins, and ends
pub begun_stands : {T : Type 0} (v : Seen T) (n : ℕ) → v.kept ≡ [] → StandsFor (begun v n) (record { first = n; items = [] }) []
unfolding awaited
begun_stands {T} v n empty = record {
  items = sym empty;
  greatest = refl;
  awaited = sym (least-is (is_missing {T = T} v.width (record { first = n; items = [] })) n (n + 1 - n) n (omega arith) (omega arith) (λ k up down. absurd (omega arith)) (missing_is false (n - v.width) n refl (omega arith)));
  from = omega arith;
  rises = omega arith;
  due = omega arith;
}

pub ended_stands : {T : Type 0} (v : Seen T) (s : Start T) (out : List (ℕ × T)) → StandsFor v s out → StandsFor (record v { ended = true }) s out
ended_stands {T} v s out stood = record {
  items = stood.items;
  greatest = stood.greatest;
  awaited = stood.awaited;
  from = stood.from;
  rises = stood.rises;
  due = rises_before s.first (v.greatest + 1) out v.kept (subst (λ (es : List (ℕ × T)). RisesIn s.first (v.greatest + 1) es) stood.items stood.rises);
}

-- ---- an item is released, or none can be
pub free_below : (ended : Bool) (n awaited top : ℕ) → (ended || nat_lt n awaited) ≡ true → n < top → n < (if ended then top else awaited)
free_below true n awaited top free below = below
free_below false n awaited top free below = grind (arith, nat_tests)

pub filter_step : {T : Type 0} (e : ℕ × T) (es fs : List (ℕ × T)) (b : Bool) → b ≡ false → es ≡ fs → (if b then e ∷ es else es) ≡ fs
filter_step e es fs true isnt is = cc
filter_step e es fs false isnt is = is

pub filter_keeps : {T : Type 0} (e : ℕ × T) (es fs : List (ℕ × T)) (b : Bool) → b ≡ true → es ≡ fs → (if b then e ∷ es else es) ≡ e ∷ fs
filter_keeps e es fs true does is = ap (λ xs. e ∷ xs) is
filter_keeps e es fs false does is = cc

pub filter_none : {T : Type 0} (lo hi a : ℕ) (es : List (ℕ × T)) → RisesIn lo hi es → a ≤ lo → filter (λ e. nat_lt e.0 a) es ≡ []
filter_none lo hi a [] rises above = refl
filter_none lo hi a (e ∷ es) rises above =
    let high : a ≤ e.0 = omega (arith, rises.0) in
    filter_step e (filter (λ x. nat_lt x.0 a) es) [] (nat_lt e.0 a) (grind (arith, nat_tests)) (filter_none (e.0 + 1) hi a es rises.1 (omega arith))

pub filter_low : {T : Type 0} (lo a hi : ℕ) (out kept : List (ℕ × T)) → RisesIn lo a out → RisesIn a hi kept → filter (λ e. nat_lt e.0 a) (out ++ kept) ≡ out
filter_low lo a hi [] kept low high = filter_none a hi a kept high (omega arith)
filter_low lo a hi (e ∷ out) kept low high =
    let below : e.0 < a = omega (arith, rises_up (e.0 + 1) a out low.1) in
    filter_keeps e (filter (λ x. nat_lt x.0 a) (out ++ kept)) out (nat_lt e.0 a) (grind (arith, nat_tests)) (filter_low (e.0 + 1) a hi out kept low.1 high)

-- where nothing can be released, all was that may be
pub all_released : {T : Type 0} (v : Seen T) (s : Start T) (out : List (ℕ × T)) (b : Bool) → v.ended ≡ b → StandsFor v s out → (b ≡ true → v.kept ≡ []) → (b ≡ false → RisesIn v.awaited (v.greatest + 1) v.kept) → out ≡ released v.width b s
all_released v s out true ended stood none rises = sym (stood.items ∙ (ap (λ es. out ++ es) (none refl) ∙ append-nil out))
all_released {T} v s out false ended stood none rises =
    sym (ap (λ a. filter (λ (e : ℕ × T). nat_lt e.0 a) s.items) (sym stood.awaited) ∙ (ap (filter (λ e. nat_lt e.0 v.awaited)) stood.items
    ∙ filter_low s.first v.awaited (v.greatest + 1) out v.kept (due_of v.ended s.first (v.greatest + 1) v.awaited out ended stood.due) (rises refl)))

pub ended_empty : {T : Type 0} (v : Seen T) (es : List (ℕ × T)) → free_of v es ≡ None → v.ended ≡ true → es ≡ []
ended_empty v [] settled ended = refl
ended_empty v (e ∷ es) settled ended = let isnt = not_free_step e (is_free v e.0) settled in absurd (free_ended v.ended (nat_lt e.0 v.awaited) ended isnt)
  where
    free_ended : (b c : Bool) → b ≡ true → (b || c) ≡ false → ⊥
    free_ended true c is isnt = cc
    free_ended false c is isnt = cc

pub nothing_free : {T : Type 0} (v : Seen T) (s : Start T) (out : List (ℕ × T)) → IsWindow v → first_free v ≡ None → StandsFor v s out → out ≡ released v.width v.ended s
nothing_free v s out was settled stood =
    all_released v s out v.ended refl stood (ended_empty v v.kept settled) (λ going. rises_settled v 0 (v.greatest + 1) v.kept settled was.rises was.next)

-- the first goes out
pub first_goes : {T : Type 0} (v : Seen T) (s : Start T) (out : List (ℕ × T)) (e : ℕ × T) (es : List (ℕ × T)) → v.kept ≡ e ∷ es → is_free v e.0 ≡ true → StandsFor v s out → StandsFor (record v { kept = drop 1 v.kept }) s (out ++ e ∷ [])
first_goes {T} v s out e es kept free stood =
    let joined : s.items ≡ out ++ e ∷ es = stood.items ∙ ap (λ xs. out ++ xs) kept in
    let rises : RisesIn s.first (v.greatest + 1) (out ++ e ∷ es) = subst (λ (xs : List (ℕ × T)). RisesIn s.first (v.greatest + 1) xs) joined stood.rises in
    let end : RisesIn s.first (v.greatest + 1) (e ∷ es) = rises_end s.first (v.greatest + 1) out (e ∷ es) rises in
    let within : e.0 < v.greatest + 1 = omega (arith, rises_up (e.0 + 1) (v.greatest + 1) es end.1) in
    record {
      items = joined ∙ (sym (append_assoc out (e ∷ []) es) ∙ ap (λ xs. (out ++ e ∷ []) ++ drop 1 xs) (sym kept));
      greatest = stood.greatest;
      awaited = stood.awaited;
      from = stood.from;
      rises = stood.rises;
      due = rises_front s.first (v.greatest + 1) (if v.ended then v.greatest + 1 else v.awaited) out e es (free_below v.ended e.0 v.awaited (v.greatest + 1) free within) rises;
    }

pub release_step : {T : Type 0} (v : Seen T) (s : Start T) (out : List (ℕ × T)) (e : ℕ × T) (P : Type 0) (b : Bool) → (b ≡ true → StandsFor (record v { kept = drop 1 v.kept }) s (out ++ e ∷ [])) → (b ≡ false → P)
    → MatchOption (if b then Some e else None) P (λ x. StandsFor (without v (if b then Some e else None)) s (out ++ x ∷ []))
release_step v s out e P true goes none = goes refl
release_step v s out e P false goes none = none refl

pub release_cases : {T : Type 0} (v : Seen T) (s : Start T) (out : List (ℕ × T)) (es : List (ℕ × T)) → v.kept ≡ es → IsWindow v → StandsFor v s out
    → MatchOption (free_of v es) (out ≡ released v.width v.ended s) (λ x. StandsFor (without v (free_of v es)) s (out ++ x ∷ []))
release_cases v s out [] kept was stood = nothing_free v s out was (ap (free_of v) kept) stood
release_cases v s out (e ∷ es) kept was stood =
    release_step v s out e (out ≡ released v.width v.ended s) (is_free v e.0) (λ free. first_goes v s out e es kept free stood)
    (λ stays. nothing_free v s out was (ap (free_of v) kept ∙ ap (λ b. if b then Some e else None) stays) stood)

pub release_stands : {T : Type 0} (v : Seen T) (s : Start T) (out : List (ℕ × T)) → IsWindow v → StandsFor v s out
    → MatchOption (first_free v) (out ≡ released v.width v.ended s) (λ x. StandsFor (after_release v) s (out ++ x ∷ []))
release_stands v s out was stood = release_cases v s out v.kept refl was stood
