-- The fields of an index while a packet comes.
use Rattle.std.proofs.Common.{◌≡◌, ℕ, ◌+◌, ◌^◌, ◌<◌, Bool, true, false, ◌==◌, if◌then◌else◌, List, [], ◌∷◌, ◌++◌, subst, sym, ◌∙◌, ap, append-nil, arith}
use Rattle.channel_cache.specs.declared.{access_index.index.Index.TheInside.Inside, access_index.point.Point.Point}
use Rattle.channel_cache.specs.access_index.{pushed, since, seen_of, AreTimes, RiseIn, Row}
use Rattle.channel_cache.proofs.access_index.Edge.{pushed_is, times_own}
use Rattle.channel_cache.proofs.access_index.Rising.{own, rise_pushed}

-- once the packet stands among the points, if it is one; the interval begins with `first`, and timestamps are counted from `edge`
pub record IsTaken (old new : Inside) (edge first n ts : ℕ) (access : Bool) : Type 0 where
  pub edge_is : new.edge ≡ edge
  pub capacity : new.capacity ≡ old.capacity
  pub lo : new.lo ≡ first
  pub total : new.total ≡ old.total
  pub points : new.points.items ≡ old.points.items ++ own access n ts old.total
  pub room : new.points.capacity ≡ old.points.capacity

pub taken_point : (old new : Inside) (points : Row) (edge first n at ts : ℕ) (access : Bool) → at ≡ ts → new ≡ record old { edge = edge; lo = first; points = points } → access ≡ true
    → points ≡ record { items = old.points.items ++ record { n = n; ts = at; before = old.total } ∷ []; capacity = old.points.capacity } → IsTaken old new edge first n ts access
taken_point old new points edge first n at ts access same is point more =
    record {
      edge_is = ap (λ i. i.edge) is;
      capacity = ap (λ i. i.capacity) is;
      lo = ap (λ i. i.lo) is;
      total = ap (λ i. i.total) is;
      points = ap (λ i. i.points.items) is ∙ (ap (λ r. r.items) more ∙ (ap (λ (t : ℕ). old.points.items ++ record { n = n; ts = t; before = old.total } ∷ []) same ∙ sym (ap (λ b. old.points.items ++ own b n ts old.total) point)));
      room = ap (λ i. i.points.capacity) is ∙ ap (λ r. r.capacity) more;
    }

pub taken_other : (old new : Inside) (edge first n ts : ℕ) (access : Bool) → new ≡ record old { edge = edge; lo = first } → access ≡ false → IsTaken old new edge first n ts access
taken_other old new edge first n ts access is other =
    record {
      edge_is = ap (λ i. i.edge) is;
      capacity = ap (λ i. i.capacity) is;
      lo = ap (λ i. i.lo) is;
      total = ap (λ i. i.total) is;
      points = ap (λ i. i.points.items) is ∙ (sym (append-nil old.points.items) ∙ sym (ap (λ b. old.points.items ++ own b n ts old.total) other));
      room = ap (λ i. i.points.capacity) is;
    }

-- what is shown then
pub taken_is : (old new : Inside) (edge first n ts wire bytes : ℕ) (access : Bool) → edge < 2 ^ 32 → ts < 2 ^ 32 → RiseIn old.lo old.hi 0 old.total old.points.items → ((old.lo == old.hi) ≡ false → edge ≡ old.edge)
    → first ≡ (if old.lo == old.hi then n else old.lo) → bytes ≡ wire → IsTaken old new edge first n (since edge ts) access
    → seen_of new.edge new.capacity new.lo (n + 1) ts (new.total + bytes) new.points.items ≡ pushed (seen_of old.edge old.capacity old.lo old.hi old.last old.total old.points.items) n ts wire access
taken_is old new edge first n ts wire bytes access small_edge small rise same begins is taken =
    ap (λ (e : ℕ). seen_of e new.capacity new.lo (n + 1) ts (new.total + bytes) new.points.items) taken.edge_is
    ∙ (ap (λ (m : ℕ). seen_of edge m new.lo (n + 1) ts (new.total + bytes) new.points.items) taken.capacity
    ∙ pushed_is old.edge edge old.capacity old.lo old.hi old.last old.total n ts wire new.lo (new.total + bytes) access old.points.items new.points.items small_edge small rise same (taken.lo ∙ begins)
    (omega (arith, taken.total, is)) taken.points)

-- and the points rise
pub taken_rise : (old new : Inside) (edge first n ts wire bytes : ℕ) (access : Bool) → RiseIn old.lo old.hi 0 old.total old.points.items → first ≡ (if old.lo == old.hi then n else old.lo) → bytes ≡ wire → (old.lo < old.hi → n ≡ old.hi)
    → IsTaken old new edge first n ts access → RiseIn new.lo (n + 1) 0 (new.total + bytes) new.points.items
taken_rise old new edge first n ts wire bytes access rise begins is next taken =
    rise_pushed old.lo old.hi old.total n ts wire new.lo (new.total + bytes) access old.points.items new.points.items rise next (taken.lo ∙ begins) (omega (arith, taken.total, is)) taken.points

-- and each timestamp has 32 bits
pub taken_times : (old new : Inside) (edge first n ts : ℕ) (access : Bool) → ts < 2 ^ 32 → AreTimes old.points.items → IsTaken old new edge first n ts access → AreTimes new.points.items
taken_times old new edge first n ts access small times taken =
    subst (λ (ps : List Point). AreTimes ps) (sym taken.points) (times_own n ts old.total access old.points.items small times)
