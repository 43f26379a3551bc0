-- What contracts see of an index, and what each call makes of it.
use Rattle.std.specs.Prelude.{ℕ, ◌+◌, min, max, Bool, ◌==◌, nat_le, if◌then◌else◌, List, [], ◌∷◌, ◌++◌, map, filter, Option, Some, None}
use Rattle.rams_model.specs.Packets.{age_ms, is_at_most}
use Rattle.channel_cache.specs.declared.access_index.choice.Choice.{Choice}
use Rattle.channel_cache.specs.declared.access_index.choice.Choice.TheVariants.{Start, NoStart, MinUnmet, MaxUnmet}

-- an access point
pub record AccessPoint : Type 0 where
  pub n : ℕ
  pub ts : ℕ
  -- the wire sizes of the marks from it on
  pub behind : ℕ

-- what an index keeps of the marks
pub record Seen : Type 0 where
  -- most marks
  pub capacity : ℕ
  -- the number of the first mark, and one above that of the last; the same where there is none
  pub lo : ℕ
  pub hi : ℕ
  -- the timestamp of the last packet that was pushed
  pub last : ℕ
  -- the wire sizes of all packets that were pushed
  pub total : ℕ
  -- by rising number
  pub points : List AccessPoint

-- no packet was pushed
abbrev pub new_index : ℕ → Seen
new_index capacity = record { capacity = capacity; lo = 0; hi = 0; last = 0; total = 0; points = [] }

-- more bytes behind a point
abbrev pub more_behind : ℕ → AccessPoint → AccessPoint
more_behind wire p = record p { behind = p.behind + wire }

-- the index after a packet
abbrev pub pushed : Seen → ℕ → ℕ → ℕ → Bool → Seen
pushed v n ts wire access =
    record {
      capacity = v.capacity;
      lo = if v.lo == v.hi then n else v.lo;
      hi = n + 1;
      last = ts;
      total = v.total + wire;
      points = map (more_behind wire) v.points ++ (if access then record { n = n; ts = ts; behind = wire } ∷ [] else []);
    }

-- the index without the marks below a number
abbrev pub left_from : Seen → ℕ → Seen
left_from v lo = record v { lo = min (max v.lo lo) v.hi; points = filter (λ p. nat_le lo p.n) v.points }

-- a point leaves room: the bytes from it on, with the declared ones, fit
abbrev pub leaves_room : ℕ → ℕ → AccessPoint → Bool
leaves_room room declared p = nat_le (p.behind + declared) room

-- its age, in ms, at the timestamp of the last mark
abbrev pub age_at : ℕ → AccessPoint → ℕ
age_at last p = age_ms last p.ts

-- the newest of some points, which is the last
abbrev pub newest : List AccessPoint → Option AccessPoint
newest [] = None
newest (p ∷ []) = Some p
newest (p ∷ q ∷ ps) = newest (q ∷ ps)

-- a start there, unless it is too old
abbrev pub start_unless : Option ℕ → ℕ → ℕ → ℕ → Choice
start_unless most age n behind = if is_at_most age most then Start n behind else MaxUnmet

-- at the newest point that is old enough, where there is one
abbrev pub start_at : ℕ → Option ℕ → Option AccessPoint → Choice
start_at last most None = MinUnmet
start_at last most (Some p) = start_unless most (age_at last p) p.n p.behind

-- the choice among the points that leave room
abbrev pub choice_among : ℕ → ℕ → Option ℕ → List AccessPoint → Choice
choice_among last least most [] = NoStart
choice_among last least most (p ∷ ps) = start_at last most (newest (filter (λ q. nat_le least (age_at last q)) (p ∷ ps)))

-- Where a burst begins: at the newest point that leaves room and is at least `least` ms old, unless it is older than `most`.
abbrev pub choice : Seen → ℕ → ℕ → ℕ → Option ℕ → Choice
choice v room declared least most = choice_among v.last least most (filter (leaves_room room declared) v.points)
