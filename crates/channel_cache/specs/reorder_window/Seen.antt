-- What contracts see of a window, and the items in time that it stands for.
use Rattle.std.specs.Prelude.{◌≡◌, ℕ, ◌+◌, ◌-◌, ◌^◌, ◌<◌, ◌≤◌, max, Bool, true, false, ◌||◌, ◌==◌, nat_lt, if◌then◌else◌, List, [], ◌∷◌, ◌++◌, length, drop, Option, Some, None, refl}
use Rattle.std.specs.Coded.{Coded, code_by, coded×, coded_ℕ, coded_bool, coded_list}
use Rattle.channel_cache.specs.declared.reorder_window.window.Came.{Came}
use Rattle.channel_cache.specs.declared.reorder_window.window.Came.TheVariants.{Kept, Late, Twice}
use Rattle.channel_cache.specs.reorder_window.Starts.{Start, has_number, with_item, last_number, awaited, came, start_after, released}

-- what a window keeps
pub record Seen (T : Type 0) : Type 0 where
  -- how far below the greatest number one is waited for
  pub width : ℕ
  pub awaited : ℕ
  pub greatest : ℕ
  -- no start goes on
  pub ended : Bool
  -- the items that were not released, by rising number
  pub kept : List (ℕ × T)

abbrev pub seen_of : {T : Type 0} → ℕ → ℕ → ℕ → Bool → List (ℕ × T) → Seen T
seen_of width awaited greatest ended kept = record { width = width; awaited = awaited; greatest = greatest; ended = ended; kept = kept }

-- stored as the pairs of its fields
abbrev pub seen_code : {T : Type 0} → Coded T → Coded (Seen T)
seen_code {T} code =
    code_by (ℕ × (ℕ × (ℕ × (Bool × List (ℕ × T))))) (coded× coded_ℕ (coded× coded_ℕ (coded× coded_ℕ (coded× coded_bool (coded_list (coded× coded_ℕ code))))))
    (λ v. (v.width, (v.awaited, (v.greatest, (v.ended, v.kept))))) (λ p. seen_of p.0 p.1.0 p.1.1.0 p.1.1.1.0 p.1.1.1.1) (λ _. refl)

-- no start was begun
abbrev pub new_window : {T : Type 0} → ℕ → Seen T
new_window width = record { width = width; awaited = 0; greatest = 0; ended = true; kept = [] }

-- a start begins with number n
abbrev pub begun : {T : Type 0} → Seen T → ℕ → Seen T
begun v n = record v { awaited = n; greatest = n; ended = false }

-- what becomes of an item
abbrev pub came_of : {T : Type 0} → Seen T → ℕ → Came
came_of v n = if nat_lt n v.awaited then Late else if has_number n v.kept then Twice else Kept

-- the least number from n on that none of the items has, which stand by rising number
abbrev pub next_missing : {T : Type 0} → ℕ → List (ℕ × T) → ℕ
next_missing n [] = n
next_missing n (e ∷ es) = next_missing (if e.0 == n then n + 1 else n) es

-- the window with one more item: the awaited number goes on to one that is missing, and not too far below the greatest
abbrev pub keeping : {T : Type 0} → Seen T → ℕ → T → Seen T
keeping v n item =
    let kept = with_item n item v.kept in
    let greatest = max v.greatest n in
    record v { awaited = next_missing (max v.awaited (greatest - v.width)) kept; greatest = greatest; kept = kept }

-- the window after an item came
abbrev pub arrived : {T : Type 0} → Seen T → ℕ → T → Came → Seen T
arrived v n item Kept = keeping v n item
arrived v n item Late = v
arrived v n item Twice = v

-- the item with this number can be released
abbrev pub is_free : {T : Type 0} → Seen T → ℕ → Bool
is_free v n = v.ended || nat_lt n v.awaited

-- the first of the items, where it can be released
abbrev pub free_of : {T : Type 0} → Seen T → List (ℕ × T) → Option (ℕ × T)
free_of v [] = None
free_of v (e ∷ es) = if is_free v e.0 then Some e else None

abbrev pub first_free : {T : Type 0} → Seen T → Option (ℕ × T)
first_free v = free_of v v.kept

-- the window without the first item, where that is released
abbrev pub without : {T : Type 0} → Seen T → Option (ℕ × T) → Seen T
without v None = v
without v (Some e) = record v { kept = drop 1 v.kept }

abbrev pub after_release : {T : Type 0} → Seen T → Seen T
after_release v = without v (first_free v)

-- no item is kept, and this number is waited for
pub record IsAwaited {T : Type 0} (v : Seen T) (n : ℕ) : Type 0 where
  pub empty : v.kept ≡ []
  pub next : v.awaited ≡ n

-- an item goes by: it is kept, and released at once, after which no other can be
pub record GoesBy {T : Type 0} (v w : Seen T) (n : ℕ) (item : T) : Type 0 where
  pub came : came_of v n ≡ Kept
  pub first : first_free (keeping v n item) ≡ Some (n, item)
  pub rest : w ≡ after_release (keeping v n item)
  pub settled : first_free w ≡ None

-- the numbers rise, from `lo` on and below `hi`
abbrev pub RisesIn : {T : Type 0} → ℕ → ℕ → List (ℕ × T) → Type 0
RisesIn lo hi [] = lo ≤ hi
RisesIn lo hi (e ∷ es) = (lo ≤ e.0) × RisesIn (e.0 + 1) hi es

-- what is true of every window
pub record IsWindow {T : Type 0} (v : Seen T) : Type 0 where
  pub rises : RisesIn 0 (v.greatest + 1) v.kept
  -- no number more than `width` below the greatest is waited for
  pub near : v.greatest ≤ v.awaited + v.width
  pub next : v.awaited ≤ v.greatest + 1
  pub missing : has_number v.awaited v.kept ≡ false
  pub small : v.greatest < 2 ^ 62
  pub fits : length v.kept ≤ v.width + 1

-- The window stands for the items in time of a start, of which these were released.
pub record StandsFor {T : Type 0} (v : Seen T) (s : Start T) (out : List (ℕ × T)) : Type 0 where
  -- all others are kept
  pub items : s.items ≡ out ++ v.kept
  pub greatest : v.greatest ≡ last_number s.first s.items
  pub awaited : v.awaited ≡ awaited v.width s
  pub from : s.first ≤ v.awaited
  pub rises : RisesIn s.first (v.greatest + 1) s.items
  -- none was released before its time
  pub due : RisesIn s.first (if v.ended then v.greatest + 1 else v.awaited) out

-- An item went by: it came in time, and all that may be released was released with it.
pub record WentBy {T : Type 0} (v w : Seen T) (n : ℕ) (item : T) (s : Start T) (out : List (ℕ × T)) : Type 0 where
  pub came : came v.width s n ≡ Kept
  pub stands : StandsFor w (start_after s n item Kept) (out ++ (n, item) ∷ [])
  pub all : out ++ (n, item) ∷ [] ≡ released w.width w.ended (start_after s n item Kept)
