-- The points whose timestamps are below those of all points behind them, and what no timestamp is above.
use Rattle.std.specs.Prelude.{ℕ, ◌+◌, ◌<◌, ◌≤◌, Bool, true, ◌&&◌, nat_lt, if◌then◌else◌, List, [], ◌∷◌, length, filter, get_or}
use Rattle.channel_cache.specs.declared.{access_index.lid.Lid.Lid, access_index.lid.Lids.Lids, access_index.point.Point.Point}

-- the timestamps of all of them are above this one
unfoldable pub are_over : ℕ → List Point → Bool
are_over ts [] = true
are_over ts (p ∷ ps) = nat_lt ts p.ts && are_over ts ps

-- those with a timestamp below those of all behind them
unfoldable pub lows_of : List Point → List Point
lows_of [] = []
lows_of (p ∷ ps) = if are_over p.ts ps then p ∷ lows_of ps else lows_of ps

-- those with a timestamp below this one
abbrev pub under : ℕ → List Point → List Point
under ts ps = filter (λ p. nat_lt p.ts ts) ps

-- none of the last points that a lid is over has a timestamp above it
abbrev pub IsLid : Lid → List Point → Type 0
IsLid lid points = (j : ℕ) (e : Point) → length points ≤ j + lid.run → j < length points → (get_or points j e).ts ≤ lid.most

-- neither of two lids has one above it
abbrev pub AreLids : Lids → List Point → Type 0
AreLids lids points = IsLid lids.first points × IsLid lids.second points
