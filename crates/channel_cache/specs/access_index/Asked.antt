-- What is asked of the points as they are kept.
use Rattle.std.specs.Prelude.{nat_le, List, map, filter}
use Rattle.channel_cache.specs.declared.{access_index.choice.Choice.Choice, access_index.point.Ask.Ask, access_index.point.Point.Point}
use Rattle.channel_cache.specs.access_index.Kept.{shown}
use Rattle.channel_cache.specs.access_index.Seen.{AccessPoint, leaves_room, age_at, newest, start_at, choice_among}

-- those that leave room
abbrev pub roomy : Ask → List Point → List AccessPoint
roomy a ps = filter (leaves_room a.room a.declared) (map (shown a.total) ps)

-- the start at the newest of those that is old enough, where there is one
abbrev pub start_of : Ask → List Point → Choice
start_of a ps = start_at a.last a.max_ms (newest (filter (λ q. nat_le a.min_ms (age_at a.last q)) (roomy a ps)))

-- the choice among those
abbrev pub choice_for : Ask → List Point → Choice
choice_for a ps = choice_among a.last a.min_ms a.max_ms (roomy a ps)
