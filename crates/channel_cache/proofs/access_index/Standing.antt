-- An index goes on to stand for its marks, and chooses among them.
use Rattle.std.proofs.Common.{◌≡◌, ℕ, ◌+◌, ◌*◌, ◌<◌, min, max, Bool, true, false, ◌&&◌, ◌==◌, nat_le, if◌then◌else◌, List, [], ◌∷◌, ◌++◌, length, map, filter, Option, Ok, Err, refl, sym, ◌∙◌, ap, subst, length-append, arith}
use Rattle.std.proofs.lemmas.Bool.Decides.{nat_tests}
use Rattle.rams_model.specs.declared.{Channel.Channel, Held.Held}
use Rattle.rams_model.specs.Packets.{from_number, behind, last_timestamp, age, is_eligible, is_at_most, not_too_old, chosen_of, chosen, Follows}
use Rattle.rams_model.specs.Packets.Access as access
use Rattle.channel_cache.specs.declared.access_index.choice.Choice.TheVariants.{Start, MaxUnmet}
use Rattle.channel_cache.specs.access_index.{AccessPoint, more_behind, pushed, left_from, leaves_room, newest, start_at, choice_among, choice, point_of, points_of, StandsFor, choice_of}
use Rattle.channel_cache.specs.access_index.Seen.{Seen}
use Rattle.channel_cache.proofs.access_index.Choosing.{of_age}
use Rattle.rams_model.proofs.Holding.{one_behind}
use Rattle.channel_cache.proofs.access_index.Packets.{points_same, last-append, own_point, points-append, points_from-from, follows-from, length-from, last-from}

-- ---- one more packet
-- its number is the next of the interval, which begins with it where it is empty
pub next_number : (v : Seen) (n : ℕ) (marks : List Held) (b : Bool) → (v.lo == v.hi) ≡ b → (v.lo < v.hi → n ≡ v.hi) → Follows v.lo marks → v.lo + length marks ≡ v.hi
    → Follows (if b then n else v.lo) marks × (n ≡ (if b then n else v.lo) + length marks)
next_number v n [] true none next numbers hi = (tt, omega arith)
next_number v n (m ∷ ms) true none next numbers hi = let same : v.lo ≡ v.hi = grind (arith, nat_tests) in absurd (omega arith)
next_number v n marks false some next numbers hi = let apart : v.lo < v.hi = grind (arith, nat_tests) in (numbers, omega (arith, next apart))

pub own_same : (h : Held) (n ts wire : ℕ) (b : Bool) → h.n ≡ n → h.ts ≡ ts → h.wire ≡ wire → h.access ≡ b → own_point h ≡ (if b then record { n = n; ts = ts; behind = wire } ∷ [] else [])
own_same h n ts wire b is_n is_ts is_wire is_access = cc

pub pushed_stands : (v : Seen) (n ts wire : ℕ) (b : Bool) (marks : List Held) (h : Held) → (v.lo < v.hi → n ≡ v.hi) → h.n ≡ n → h.ts ≡ ts → h.wire ≡ wire → h.access ≡ b → StandsFor v marks → StandsFor (pushed v n ts wire b) (marks ++ h ∷ [])
pushed_stands v n ts wire b marks h next is_n is_ts is_wire is_access stood =
    let at = next_number v n marks (v.lo == v.hi) refl next stood.numbers stood.hi in
    let lo = if v.lo == v.hi then n else v.lo in
    let place : h.n ≡ lo + length marks = is_n ∙ at.1 in
    record {
      numbers = one_behind lo marks h at.0 place;
      hi = omega (arith, at.1, length-append marks (h ∷ []));
      last = λ some. sym (last-append marks h ∙ is_ts);
      points = ap (λ ps. map (more_behind wire) ps ++ (if b then record { n = n; ts = ts; behind = wire } ∷ [] else [])) stood.points
          ∙ (sym (ap (λ ps. map (more_behind wire) (points_of marks) ++ ps) (own_same h n ts wire b is_n is_ts is_wire is_access))
          ∙ (sym (ap (λ w. map (more_behind w) (points_of marks) ++ own_point h) is_wire) ∙ sym (points-append lo marks h at.0 place)));
    }

-- ---- the first marks go
pub left_stands : (v : Seen) (from : ℕ) (marks : List Held) → StandsFor v marks → StandsFor (left_from v from) (from_number from marks)
left_stands v from marks stood =
    let numbers : Follows (min (max v.lo from) v.hi) (from_number from marks) = subst (λ (n : ℕ). Follows (min (max v.lo from) n) (from_number from marks)) stood.hi (follows-from v.lo from marks stood.numbers) in
    record {
      numbers = numbers;
      hi = ap (λ n. min (max v.lo from) n + length (from_number from marks)) (sym stood.hi) ∙ (length-from v.lo from marks stood.numbers ∙ stood.hi);
      last = λ some. stood.last (omega arith) ∙ sym (last-from v.lo from marks stood.numbers (omega (arith, stood.hi)));
      points = ap (filter (λ p. nat_le from p.n)) (stood.points ∙ points_same v.lo marks stood.numbers)
          ∙ (sym (points_from-from v.lo from marks stood.numbers) ∙ sym (points_same (min (max v.lo from) v.hi) (from_number from marks) numbers));
    }

-- ---- the choice
-- the eligible packets are the points that leave room
pub eligible_step : (point : Held → AccessPoint) (h : Held) (hs : List Held) (qs : List AccessPoint) (room declared : ℕ) (a b : Bool) → leaves_room room declared (point h) ≡ b → map point hs ≡ filter (leaves_room room declared) qs
    → map point (if a && b then h ∷ hs else hs) ≡ filter (leaves_room room declared) (if a then point h ∷ qs else qs)
eligible_step point h hs qs room declared true true fits rest = sym (ap (λ b. if b then point h ∷ filter (leaves_room room declared) qs else filter (leaves_room room declared) qs) fits ∙ ap (λ rs. point h ∷ rs) (sym rest))
eligible_step point h hs qs room declared true false fits rest = sym (ap (λ b. if b then point h ∷ filter (leaves_room room declared) qs else filter (leaves_room room declared) qs) fits ∙ sym rest)
eligible_step point h hs qs room declared false b fits rest = rest

pub map_step : (point : Held → AccessPoint) (h : Held) (hs : List Held) (qs : List AccessPoint) (a : Bool) → map point hs ≡ qs → map point (if a then h ∷ hs else hs) ≡ (if a then point h ∷ qs else qs)
map_step point h hs qs true rest = ap (λ ps. point h ∷ ps) rest
map_step point h hs qs false rest = rest

pub eligible_points : (c : Channel) (marks hs : List Held) → map (point_of marks) (filter (is_eligible c marks) hs) ≡ filter (leaves_room (c.ring * c.minwire) c.declared) (map (point_of marks) (filter (λ h. h.access) hs))
eligible_points c marks [] = refl
eligible_points c marks (h ∷ hs) =
    eligible_step (point_of marks) h (filter (is_eligible c marks) hs) (map (point_of marks) (filter (λ k. k.access) hs)) (c.ring * c.minwire) c.declared h.access (nat_le (behind h.n marks + c.declared) (c.ring * c.minwire)) refl (eligible_points c marks hs)
    ∙ ap (filter (leaves_room (c.ring * c.minwire) c.declared)) (sym (map_step (point_of marks) h (filter (λ k. k.access) hs) (map (point_of marks) (filter (λ k. k.access) hs)) h.access refl))

pub old_points : (marks hs : List Held) (least : ℕ) → map (point_of marks) (access.of_age marks least hs) ≡ of_age (last_timestamp marks) least (map (point_of marks) hs)
old_points marks [] least = refl
old_points marks (h ∷ hs) least =
    map_step (point_of marks) h (access.of_age marks least hs) (of_age (last_timestamp marks) least (map (point_of marks) hs)) (nat_le least (age marks h)) (old_points marks hs least)

pub start_same_step : (marks : List Held) (h : Held) (b : Bool) → (if b then Start h.n (behind h.n marks) else MaxUnmet) ≡ choice_of marks (if b then Ok h else Err 402)
start_same_step marks h true = refl
start_same_step marks h false = refl

pub start_same : (marks : List Held) (most : Option ℕ) (hs : List Held) → start_at (last_timestamp marks) most (newest (map (point_of marks) hs)) ≡ choice_of marks (not_too_old marks most (access.newest hs))
start_same marks most [] = refl
start_same marks most (h ∷ []) = start_same_step marks h (is_at_most (age marks h) most)
start_same marks most (h ∷ k ∷ hs) = start_same marks most (k ∷ hs)

pub among_same : (marks : List Held) (least : ℕ) (most : Option ℕ) (hs : List Held) → choice_among (last_timestamp marks) least most (map (point_of marks) hs) ≡ choice_of marks (chosen_of marks least most hs)
among_same marks least most [] = refl
among_same marks least most (h ∷ hs) =
    ap (λ ps. start_at (last_timestamp marks) most (newest ps)) (sym (old_points marks (h ∷ hs) least)) ∙ start_same marks most (access.of_age marks least (h ∷ hs))

-- where there is a point, the kept timestamp is that of the last mark
pub last_same : (v : Seen) (room declared least : ℕ) (most : Option ℕ) (marks : List Held) → StandsFor v marks
    → choice_among v.last least most (filter (leaves_room room declared) (points_of marks)) ≡ choice_among (last_timestamp marks) least most (filter (leaves_room room declared) (points_of marks))
last_same v room declared least most [] stood = refl
last_same v room declared least most (m ∷ ms) stood =
    ap (λ (n : ℕ). choice_among n least most (filter (leaves_room room declared) (points_of (m ∷ ms)))) (stood.last (omega (arith, stood.hi)))

pub choice_same : (v : Seen) (c : Channel) (least : ℕ) (most : Option ℕ) (marks : List Held) → StandsFor v marks → choice v (c.ring * c.minwire) c.declared least most ≡ choice_of marks (chosen c marks least most)
unfolding chosen
choice_same v c least most marks stood =
    ap (λ ps. choice_among v.last least most (filter (leaves_room (c.ring * c.minwire) c.declared) ps)) stood.points
    ∙ (last_same v (c.ring * c.minwire) c.declared least most marks stood
    ∙ (ap (choice_among (last_timestamp marks) least most) (sym (eligible_points c marks marks)) ∙ among_same marks least most (access.eligible c marks)))

pub choice_stands : (v : Seen) (room declared least : ℕ) (most : Option ℕ) (c : Channel) (marks : List Held) → c.ring * c.minwire ≡ room → c.declared ≡ declared → StandsFor v marks
    → choice v room declared least most ≡ choice_of marks (chosen c marks least most)
choice_stands v room declared least most c marks is_room is_declared stood =
    sym (ap (λ (n : ℕ). choice v n declared least most) is_room) ∙ (sym (ap (λ (n : ℕ). choice v (c.ring * c.minwire) n least most) is_declared) ∙ choice_same v c least most marks stood)
