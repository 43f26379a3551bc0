-- The packets that an index stands for.
use Rattle.std.specs.Prelude.{◌≡◌, ℕ, ◌+◌, ◌<◌, ◌==◌, if◌then◌else◌, List, length, map, filter, Result, Ok, Err}
use Rattle.rams_model.specs.declared.Held.{Held}
use Rattle.rams_model.specs.Packets.{behind, last_timestamp, Follows}
use Rattle.channel_cache.specs.declared.access_index.choice.Choice.{Choice}
use Rattle.channel_cache.specs.declared.access_index.choice.Choice.TheVariants.{Start, NoStart, MinUnmet, MaxUnmet}
use Rattle.channel_cache.specs.access_index.Seen.{AccessPoint, Seen}

-- a packet among the marks, as an access point
abbrev pub point_of : List Held → Held → AccessPoint
point_of marks h = record { n = h.n; ts = h.ts; behind = behind h.n marks }

-- the access points among the marks
abbrev pub points_of : List Held → List AccessPoint
points_of marks = map (point_of marks) (filter (λ h. h.access) marks)

-- The index stands for these marks: their numbers, the timestamp of the last and the access points are those that it keeps.
pub record StandsFor (v : Seen) (marks : List Held) : Type 0 where
  pub numbers : Follows v.lo marks
  pub hi : v.lo + length marks ≡ v.hi
  pub last : v.lo < v.hi → v.last ≡ last_timestamp marks
  pub points : v.points ≡ points_of marks

-- the choice for a response code
abbrev pub refused : ℕ → Choice
refused code = if code == 507 then NoStart else if code == 401 then MinUnmet else MaxUnmet

-- the choice for a chosen packet
abbrev pub choice_of : List Held → Result Held ℕ → Choice
choice_of marks (Ok h) = Start h.n (behind h.n marks)
choice_of marks (Err code) = refused code
