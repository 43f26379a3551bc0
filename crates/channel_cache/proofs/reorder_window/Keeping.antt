-- What is true of every window stays true.
use Rattle.std.proofs.Common.{◌≡◌, ℕ, ◌+◌, ◌-◌, ◌<◌, ◌≤◌, ◌^◌, ◌⊎◌, max, Bool, true, false, ◌==◌, nat_lt, if◌then◌else◌, List, [], ◌∷◌, length, Some, None, refl, ◌∙◌, ap, inl, inr, arith}
use Rattle.std.proofs.lemmas.Bool.{cases_lt, or_parts}
use Rattle.std.proofs.lemmas.Bool.Decides.{nat_tests}
use Rattle.std.specs.Prelude.{insert}
use Rattle.std.specs.List.{position_or_len}
use Rattle.channel_cache.specs.reorder_window.{has_number, with_item, seen_of, next_missing, keeping, is_free, free_of, first_free, RisesIn, IsWindow}
use Rattle.channel_cache.specs.reorder_window.Seen.{Seen}
use Rattle.channel_cache.proofs.reorder_window.Rising.{differs, rises-wider, rises-length, rises-with_item, length-with_item}
use Rattle.channel_cache.proofs.reorder_window.Searches.{next-from, next-none, next-end, insert-is}

-- an item that can't be released is not below the awaited number
pub not_free_step : {T : Type 0} (e : ℕ × T) (b : Bool) → (if b then Some e else None) ≡ None → b ≡ false
not_free_step e true none = cc
not_free_step e false none = refl

pub rises_settled : {T : Type 0} (v : Seen T) (lo hi : ℕ) (es : List (ℕ × T)) → free_of v es ≡ None → RisesIn lo hi es → v.awaited ≤ hi → RisesIn v.awaited hi es
rises_settled v lo hi [] settled rises within = within
rises_settled v lo hi (e ∷ es) settled rises within =
    let above : nat_lt e.0 v.awaited ≡ false = (or_parts v.ended (nat_lt e.0 v.awaited) (not_free_step e (is_free v e.0) settled)).1 in
    (grind (arith, nat_tests), rises.1)

-- items that rise from a number that none has rise from the next
pub rises_next : {T : Type 0} (lo hi : ℕ) (es : List (ℕ × T)) → RisesIn lo hi es → has_number lo es ≡ false → lo < hi → RisesIn (lo + 1) hi es
rises_next lo hi [] rises missing below = omega arith
rises_next lo hi (e ∷ es) rises missing below = next_step (differs e.0 lo (or_parts (e.0 == lo) (has_number lo es) missing).0) rises
  where
    next_step : (e.0 < lo) ⊎ (lo < e.0) → RisesIn lo hi (e ∷ es) → RisesIn (lo + 1) hi (e ∷ es)
    next_step (inl less) rises = absurd (omega (arith, rises.0))
    next_step (inr more) rises = (omega arith, rises.1)

-- there is room for one more
pub room_for : {T : Type 0} (v : Seen T) → IsWindow v → v.ended ≡ false → first_free v ≡ None → length v.kept ≤ v.width
room_for v was going settled =
    let rises : RisesIn v.awaited (v.greatest + 1) v.kept = rises_settled v 0 (v.greatest + 1) v.kept settled was.rises was.next in
    room_step (cases_lt v.awaited (v.greatest + 1)) rises was
  where
    room_step : (v.awaited < v.greatest + 1) ⊎ (v.greatest + 1 ≤ v.awaited) → RisesIn v.awaited (v.greatest + 1) v.kept → IsWindow v → length v.kept ≤ v.width
    room_step (inl below) rises was = omega (arith, was.near, rises-length (v.awaited + 1) (v.greatest + 1) v.kept (rises_next v.awaited (v.greatest + 1) v.kept rises was.missing below))
    room_step (inr behind) rises was = omega (arith, rises-length v.awaited (v.greatest + 1) v.kept rises)

pub IsWindow-keeping : {T : Type 0} (v : Seen T) (n : ℕ) (item : T) → IsWindow v → v.ended ≡ false → first_free v ≡ None → n < 2 ^ 62 → v.awaited ≤ n → has_number n v.kept ≡ false → IsWindow (keeping v n item)
IsWindow-keeping v n item was going settled small above new =
    let top : ℕ = max v.greatest n in
    let kept = with_item n item v.kept in
    let from : ℕ = max v.awaited (top - v.width) in
    let rises : RisesIn 0 (top + 1) kept = rises-with_item 0 (top + 1) n item v.kept (rises-wider 0 (v.greatest + 1) 0 (top + 1) v.kept (omega arith) (omega arith) was.rises) new (omega arith) (omega arith) in
    let within : from ≤ top + 1 = omega (arith, was.next) in
    record {
      rises = rises;
      near = omega (arith, next-from from kept);
      next = next-end 0 (top + 1) from kept rises within;
      missing = next-none 0 (top + 1) from kept rises;
      small = omega (arith, was.small);
      fits = omega (arith, length-with_item n item v.kept, room_for v was going settled);
    }

-- ---- the fields that the code writes
-- the item is put at its place
pub inserted : {T : Type 0} (items old new : List (ℕ × T)) (place n : ℕ) (item : T) (ok : Bool) → ok ≡ true → new ≡ (if ok then insert items place (n, item) else items) → old ≡ items → place ≡ position_or_len (λ e. nat_lt n e.0) old → new ≡ with_item n item items
inserted items old new place n item true is made same at =
    made ∙ (ap (λ k. insert items k (n, item)) (at ∙ ap (position_or_len (λ e. nat_lt n e.0)) same) ∙ insert-is n item items)
inserted items old new place n item false isnt made same at = cc

pub keeping_is : {T : Type 0} (v : Seen T) (n : ℕ) (item : T) (awaited greatest : ℕ) (kept : List (ℕ × T)) → awaited ≡ next_missing (max v.awaited (greatest - v.width)) kept → greatest ≡ max v.greatest n → kept ≡ with_item n item v.kept
    → seen_of v.width awaited greatest v.ended kept ≡ keeping v n item
keeping_is v n item awaited greatest kept next top one =
    ap (λ a. seen_of v.width a greatest v.ended kept) next
    ∙ (ap (λ t. seen_of v.width (next_missing (max v.awaited (t - v.width)) kept) t v.ended kept) top
    ∙ ap (λ es. seen_of v.width (next_missing (max v.awaited (max v.greatest n - v.width)) es) (max v.greatest n) v.ended es) one)
