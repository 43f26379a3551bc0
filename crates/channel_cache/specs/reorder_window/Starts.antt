-- The items of a start that came in time, the number that is waited for, and what may be released.
use Rattle.std.specs.Prelude.{ℕ, ◌+◌, ◌-◌, Bool, ◌&&◌, ◌==◌, not, nat_le, nat_lt, if◌then◌else◌, List, [], ◌∷◌, filter}
use Rattle.std.specs.List.{list_any}
use Rattle.rams_model.specs.Packets.{least}
use Rattle.channel_cache.specs.declared.reorder_window.window.Came.{Came}
use Rattle.channel_cache.specs.declared.reorder_window.window.Came.TheVariants.{Kept, Late, Twice}

-- the items of a start that came in time, whether they were released or not
pub record Start (T : Type 0) : Type 0 where
  -- the number that it began with
  pub first : ℕ
  -- by rising number
  pub items : List (ℕ × T)

-- one of the items has this number
abbrev pub has_number : {T : Type 0} → ℕ → List (ℕ × T) → Bool
has_number n items = list_any (λ e. e.0 == n) items

-- the items, by number, with one more
abbrev pub with_item : {T : Type 0} → ℕ → T → List (ℕ × T) → List (ℕ × T)
with_item n item [] = (n, item) ∷ []
with_item n item (e ∷ es) = if nat_lt n e.0 then (n, item) ∷ e ∷ es else e ∷ with_item n item es

-- the number of the last item; the one that the start began with while there is none
abbrev pub last_number : {T : Type 0} → ℕ → List (ℕ × T) → ℕ
last_number first [] = first
last_number first (e ∷ es) = last_number e.0 es

-- a number that may still come in time: it did not come, and isn't more than `width` below the greatest
abbrev pub is_missing : {T : Type 0} → ℕ → Start T → ℕ → Bool
is_missing width s n = not (has_number n s.items) && nat_le (last_number s.first s.items - width) n

-- the awaited number: the least, from the first of the start on, that is missing
unfoldable pub awaited : {T : Type 0} → ℕ → Start T → ℕ
awaited width s = least (is_missing width s) s.first (last_number s.first s.items + 1 - s.first)

-- what becomes of an item: it is late below the awaited number, and twice where its number came in time before
abbrev pub came : {T : Type 0} → ℕ → Start T → ℕ → Came
came width s n = if nat_lt n (awaited width s) then Late else if has_number n s.items then Twice else Kept

-- the items in time after that
abbrev pub start_after : {T : Type 0} → Start T → ℕ → T → Came → Start T
start_after s n item Kept = record s { items = with_item n item s.items }
start_after s n item Late = s
start_after s n item Twice = s

-- What may be released: while the start goes on the items below the awaited number, and all once it is over.
abbrev pub released : {T : Type 0} → ℕ → Bool → Start T → List (ℕ × T)
released width ended s = if ended then s.items else filter (λ e. nat_lt e.0 (awaited width s)) s.items
