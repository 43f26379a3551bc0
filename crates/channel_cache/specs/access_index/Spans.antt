-- The points side by side, and the timestamps of each 64 of them.
use Rattle.std.specs.Prelude.{ℕ, ◌+◌, ◌-◌, ◌*◌, ◌/◌, ◌<◌, ◌≤◌, ◌≡◌, List, length, get_or}
use Rattle.rams_model.specs.Packets.{age_ms}
use Rattle.channel_cache.specs.declared.{access_index.point.Point.Point, access_index.span.Span.Span}

-- the points that are kept, and for how many there is room
pub record Row : Type 0 where
  pub items : List Point
  pub capacity : ℕ

-- a timestamp between the least and the greatest
abbrev pub IsIn : Span → ℕ → Type 0
IsIn s ts = (s.least ≤ ts) × (ts ≤ s.greatest)

-- one of them is so old at a timestamp
abbrev pub Reaches : Span → ℕ → ℕ → Type 0
Reaches s last least = (ts : ℕ) × IsIn s ts × (least ≤ age_ms last ts)

-- Each point's timestamp is in its span: 64 points have one, counted with the `gone` points of the first
-- span that are no longer kept. There are as many spans as these need.
pub record Spanned (gone : ℕ) (spans : List Span) (points : List Point) : Type 0 where
  pub few : gone < 64
  pub all : gone + length points ≤ 64 * length spans
  pub tight : 64 * length spans < gone + length points + 64
  pub within : (j : ℕ) (d : Span) (e : Point) → j < length points → IsIn (get_or spans ((gone + j) / 64) d) (get_or points j e).ts

-- the spans once the point behind `count` others is noted: it is in its own, and each other is in its own still
pub record IsNoted (count ts : ℕ) (old new : List Span) : Type 0 where
  pub number : length new ≡ count / 64 + 1
  pub own : (d : Span) → IsIn (get_or new (count / 64) d) ts
  pub others : (k : ℕ) (d : Span) (t : ℕ) → k < length old → IsIn (get_or old k d) t → IsIn (get_or new k d) t

-- the timestamps of the last `run` points rise
abbrev pub RiseLast : ℕ → List Point → Type 0
RiseLast run points = (i j : ℕ) (e : Point) → length points ≤ i + run → i ≤ j → j < length points → (get_or points i e).ts ≤ (get_or points j e).ts

-- no timestamp is above this one
abbrev pub AreAtMost : ℕ → List Point → Type 0
AreAtMost most points = (j : ℕ) (e : Point) → j < length points → (get_or points j e).ts ≤ most

-- the last of so many points, where there is one, is so old at a timestamp
abbrev pub IsLastOld : ℕ → ℕ → ℕ → List Point → Type 0
IsLastOld last least count points = (e : Point) → 0 < count → least ≤ age_ms last (get_or points (count - 1) e).ts
