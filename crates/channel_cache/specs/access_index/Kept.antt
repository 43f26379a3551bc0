-- The access points as an index keeps them, each with the bytes that were pushed before it.
use Rattle.std.specs.Prelude.{ℕ, ◌+◌, ◌-◌, ◌%◌, ◌^◌, ◌<◌, ◌≤◌, nat_lt, if◌then◌else◌, List, [], ◌∷◌, map, All}
use Rattle.channel_cache.specs.declared.access_index.point.Point.{Point}
use Rattle.channel_cache.specs.access_index.Seen.{AccessPoint, Seen}

-- a point, of all bytes that were pushed
abbrev pub shown : ℕ → Point → AccessPoint
shown total p = record { n = p.n; ts = p.ts; behind = total - p.before }

-- Timestamps are kept as they are counted from an edge (modulo 2^32; RFC 3550, 5.1): they compare as numbers
-- until the source comes to the edge.
abbrev pub since : ℕ → ℕ → ℕ
since edge ts = (ts + 2 ^ 32 - edge) % 2 ^ 32

-- an access point with its timestamp
abbrev pub timed : ℕ → AccessPoint → AccessPoint
timed edge p = record { n = p.n; ts = (p.ts + edge) % 2 ^ 32; behind = p.behind }

abbrev pub seen_of : ℕ → ℕ → ℕ → ℕ → ℕ → ℕ → List Point → Seen
seen_of edge capacity lo hi last total points =
    record { capacity = capacity; lo = lo; hi = hi; last = last; total = total; points = map (timed edge) (map (shown total) points) }

-- each timestamp has 32 bits
abbrev pub AreTimes : List Point → Type 0
AreTimes points = All (λ p. p.ts < 2 ^ 32) points

-- the numbers rise, from `lo` on and below `hi`, and the bytes before the points rise, from `least` on up to `total`
abbrev pub RiseIn : ℕ → ℕ → ℕ → ℕ → List Point → Type 0
RiseIn lo hi least total [] = (lo ≤ hi) × (least ≤ total)
RiseIn lo hi least total (p ∷ ps) = ((lo ≤ p.n) × (least ≤ p.before)) × RiseIn (p.n + 1) hi p.before total ps

-- without the points in front that have numbers below `lo`
abbrev pub above : ℕ → List Point → List Point
above lo [] = []
above lo (p ∷ ps) = if nat_lt p.n lo then above lo ps else p ∷ ps
