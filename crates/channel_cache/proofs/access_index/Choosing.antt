-- The search among the points, from the newest on.
use Rattle.std.proofs.Common.{◌≡◌, ℕ, zero, suc, ◌+◌, ◌-◌, ◌<◌, ◌≤◌, Bool, true, false, nat_le, if◌then◌else◌, List, [], ◌∷◌, ◌++◌, length, map, filter, get_or, take, drop, slice_range, Some, refl, sym, ◌∙◌, ap, subst, append-nil, take-suc, take-append-drop, take-add, take_all, arith}
use Rattle.std.proofs.lemmas.Bool.Decides.{nat_tests}
use Rattle.std.proofs.lemmas.List.{map-append}
use Rattle.std.proofs.lemmas.List.Elements.{filter-append}
use Rattle.rams_model.specs.Packets.{age_ms}
use Rattle.channel_cache.specs.declared.access_index.choice.Choice.TheVariants.{NoStart, MinUnmet}
use Rattle.channel_cache.specs.declared.{access_index.point.Ask.Ask, access_index.point.Point.Point}
use Rattle.channel_cache.specs.access_index.{AccessPoint, leaves_room, age_at, newest, start_unless, start_at, choice_among, shown, RiseIn, roomy, start_of, choice_for}
use Rattle.channel_cache.proofs.access_index.Rising.{rise_numbers, rise_bytes}

-- the points that are old enough
abbrev pub of_age : ℕ → ℕ → List AccessPoint → List AccessPoint
of_age last least ps = filter (λ q. nat_le least (age_at last q)) ps

pub newest-append : (ps : List AccessPoint) (p : AccessPoint) → newest (ps ++ p ∷ []) ≡ Some p
newest-append [] p = refl
newest-append (q ∷ []) p = refl
newest-append (q ∷ r ∷ ps) p = newest-append (r ∷ ps) p

pub filter_one : (test : AccessPoint → Bool) (p : AccessPoint) (b : Bool) → test p ≡ b → filter test (p ∷ []) ≡ (if b then p ∷ [] else [])
filter_one test p true is = ap (λ b. if b then p ∷ [] else []) is
filter_one test p false is = ap (λ b. if b then p ∷ [] else []) is

pub filter_last : (test : AccessPoint → Bool) (ps : List AccessPoint) (p : AccessPoint) (b : Bool) → test p ≡ b → filter test (ps ++ p ∷ []) ≡ filter test ps ++ (if b then p ∷ [] else [])
filter_last test ps p b is = filter-append test ps (p ∷ []) ∙ ap (λ qs. filter test ps ++ qs) (filter_one test p b is)

-- ---- the last of some points
pub room_last : (a : Ask) (ps : List Point) (p : Point) (b : Bool) → leaves_room a.room a.declared (shown a.total p) ≡ b → roomy a (ps ++ p ∷ []) ≡ roomy a ps ++ (if b then shown a.total p ∷ [] else [])
room_last a ps p b is =
    ap (filter (leaves_room a.room a.declared)) (map-append (shown a.total) ps (p ∷ [])) ∙ filter_last (leaves_room a.room a.declared) (map (shown a.total) ps) (shown a.total p) b is

-- it leaves room and is old enough
pub start_old : (a : Ask) (ps : List Point) (p : Point) → leaves_room a.room a.declared (shown a.total p) ≡ true → a.min_ms ≤ age_ms a.last p.ts
    → start_of a (ps ++ p ∷ []) ≡ start_unless a.max_ms (age_ms a.last p.ts) p.n (a.total - p.before)
start_old a ps p fits old =
    let is : nat_le a.min_ms (age_at a.last (shown a.total p)) ≡ true = grind (arith, nat_tests) in
    ap (λ qs. start_at a.last a.max_ms (newest (of_age a.last a.min_ms qs))) (room_last a ps p true fits)
    ∙ (ap (λ qs. start_at a.last a.max_ms (newest qs)) (filter_last (λ q. nat_le a.min_ms (age_at a.last q)) (roomy a ps) (shown a.total p) true is)
    ∙ ap (start_at a.last a.max_ms) (newest-append (of_age a.last a.min_ms (roomy a ps)) (shown a.total p)))

-- it is too young, whether it leaves room or not
pub start_young : (a : Ask) (ps : List Point) (p : Point) (b : Bool) → leaves_room a.room a.declared (shown a.total p) ≡ b → age_ms a.last p.ts < a.min_ms → start_of a (ps ++ p ∷ []) ≡ start_of a ps
start_young a ps p true fits young =
    let is : nat_le a.min_ms (age_at a.last (shown a.total p)) ≡ false = grind (arith, nat_tests) in
    ap (λ qs. start_at a.last a.max_ms (newest (of_age a.last a.min_ms qs))) (room_last a ps p true fits)
    ∙ ap (λ qs. start_at a.last a.max_ms (newest qs))
    (filter_last (λ q. nat_le a.min_ms (age_at a.last q)) (roomy a ps) (shown a.total p) false is ∙ append-nil (of_age a.last a.min_ms (roomy a ps)))
start_young a ps p false full young = ap (λ qs. start_at a.last a.max_ms (newest (of_age a.last a.min_ms qs))) (room_last a ps p false full ∙ append-nil (roomy a ps))

-- ---- points that rise
-- points behind the first of some have no fewer bytes before them
pub before_last : (lo hi least total : ℕ) (ps : List Point) (p : Point) → RiseIn lo hi least total (ps ++ p ∷ []) → (least ≤ p.before) × (p.before ≤ total)
before_last lo hi least total [] p rise = (rise.0.1, rise.1.1)
before_last lo hi least total (q ∷ ps) p rise =
    let behind : (q.before ≤ p.before) × (p.before ≤ total) = before_last (q.n + 1) hi q.before total ps p rise.1 in (omega (arith, rise.0.1), behind.1)

-- where the last leaves no room, none of them does
pub no_room : (a : Ask) (lo hi least : ℕ) (ps : List Point) (p : Point) → RiseIn lo hi least a.total (ps ++ p ∷ []) → leaves_room a.room a.declared (shown a.total p) ≡ false → roomy a (ps ++ p ∷ []) ≡ []
no_room a lo hi least [] p rise full = filter_one (leaves_room a.room a.declared) (shown a.total p) false full
no_room a lo hi least (q ∷ ps) p rise full =
    let less = before_last (q.n + 1) hi q.before a.total ps p rise.1 in
    let out : leaves_room a.room a.declared (shown a.total q) ≡ false = grind (arith, nat_tests) in
    ap (λ b. if b then shown a.total q ∷ roomy a (ps ++ p ∷ []) else roomy a (ps ++ p ∷ [])) out
    ∙ no_room a (q.n + 1) hi q.before ps p rise.1 full

pub start_full : (a : Ask) (lo hi least : ℕ) (ps : List Point) (p : Point) → RiseIn lo hi least a.total (ps ++ p ∷ []) → leaves_room a.room a.declared (shown a.total p) ≡ false → start_of a (ps ++ p ∷ []) ≡ MinUnmet
start_full a lo hi least ps p rise full = ap (λ qs. start_at a.last a.max_ms (newest (of_age a.last a.min_ms qs))) (no_room a lo hi least ps p rise full)

-- the points in front
pub rise_front : (lo hi least total : ℕ) (ps qs : List Point) → RiseIn lo hi least total (ps ++ qs) → RiseIn lo hi least total ps
rise_front lo hi least total [] qs rise = (rise_numbers lo hi least total qs rise, rise_bytes lo hi least total qs rise)
rise_front lo hi least total (p ∷ ps) qs rise = (rise.0, rise_front (p.n + 1) hi p.before total ps qs rise.1)

pub rise_take : (lo hi least total k : ℕ) (ps : List Point) → RiseIn lo hi least total ps → RiseIn lo hi least total (take k ps)
rise_take lo hi least total k ps rise =
    rise_front lo hi least total (take k ps) (drop k ps) (subst (λ (qs : List Point). RiseIn lo hi least total qs) (sym (take-append-drop k ps)) rise)

-- ---- points in parts
-- a range behind the points in front of it
pub take_range : (ps : List Point) (start end : ℕ) → start ≤ end → take start ps ++ slice_range ps start end ≡ take end ps
take_range ps start end ordered = let whole : start + (end - start) ≡ end = omega arith in sym (take-add start (end - start) ps) ∙ ap (λ (n : ℕ). take n ps) whole

-- the newest apart
pub take_newest : (ps : List Point) (count : ℕ) (p : Point) → count ≡ length ps → 0 < count → p ≡ get_or ps (count - 1) p → ps ≡ take (count - 1) ps ++ p ∷ []
take_newest ps count p all some is =
    let next : count ≡ suc (count - 1) = omega arith in
    sym (take_all count ps (omega arith))
    ∙ (ap (λ (n : ℕ). take n ps) next ∙ (take-suc ps (count - 1) p (omega arith) ∙ ap (λ q. take (count - 1) ps ++ q ∷ []) (sym is)))

-- ---- the newest leaves no room
pub choice_full : (a : Ask) (lo hi least : ℕ) (ps : List Point) (p : Point) → RiseIn lo hi least a.total (ps ++ p ∷ []) → leaves_room a.room a.declared (shown a.total p) ≡ false → choice_for a (ps ++ p ∷ []) ≡ NoStart
choice_full a lo hi least ps p rise full = ap (choice_among a.last a.min_ms a.max_ms) (no_room a lo hi least ps p rise full)

-- ---- points that are passed over
abbrev pub no_point : Point
no_point = record { n = 0; ts = 0; before = 0 }

-- they are too young, one and all
pub start_passed : (a : Ask) (ps : List Point) (start count : ℕ) → start + count ≤ length ps → ((j : ℕ) → start ≤ j → j < start + count → age_ms a.last (get_or ps j no_point).ts < a.min_ms)
    → start_of a (take start ps) ≡ start_of a (take (start + count) ps)
start_passed a ps start zero some young = ap (λ (n : ℕ). start_of a (take n ps)) (omega arith)
start_passed a ps start (suc count) some young =
    let more : start + suc count ≡ suc (start + count) = omega arith in
    start_passed a ps start count (omega arith) (λ j from below. young j from (omega arith))
    ∙ (sym (start_young a (take (start + count) ps) (get_or ps (start + count) no_point) (leaves_room a.room a.declared (shown a.total (get_or ps (start + count) no_point))) refl (young (start + count) (omega arith) (omega arith)))
    ∙ (sym (ap (start_of a) (take-suc ps (start + count) no_point (omega arith))) ∙ ap (λ (n : ℕ). start_of a (take n ps)) (sym more)))
