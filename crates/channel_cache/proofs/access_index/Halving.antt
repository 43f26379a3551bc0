-- Points whose timestamps rise, and the search among them by halves.
use Rattle.std.proofs.Common.{◌≡◌, ℕ, ◌+◌, ◌-◌, ◌^◌, ◌<◌, ◌≤◌, List, [], ◌∷◌, ◌++◌, length, get_or, take, sym, ◌∙◌, ap, subst, take-suc, true, false, suc, arith}
use Rattle.std.proofs.lemmas.List.{get_or_default}
use Rattle.rams_model.specs.Packets.{age_ms}
use Rattle.channel_cache.specs.declared.{access_index.point.Ask.Ask, access_index.point.Point.Point}
use Rattle.channel_cache.specs.declared.access_index.choice.Choice.TheVariants.{MinUnmet}
use Rattle.channel_cache.specs.access_index.{leaves_room, start_unless, shown, start_of, RiseIn, RiseLast, AreAtMost}
use Rattle.channel_cache.proofs.access_index.Choosing.{no_point, start_passed, start_old, start_full, before_last, rise_take}

-- ---- the search
-- a later timestamp is younger
pub age_falls : (last older newer : ℕ) → older ≤ newer → newer ≤ last → last < 2 ^ 32 → age_ms last newer ≤ age_ms last older
age_falls last older newer ordered past small = omega arith

-- where a point is too young, those behind it are
pub half_young : (a : Ask) (ps : List Point) (middle high : ℕ) (p : Point) → a.last < 2 ^ 32 → RiseLast (length ps) ps → AreAtMost a.last ps → middle ≤ high → high ≤ length ps → middle < length ps → p ≡ get_or ps middle p → age_ms a.last p.ts < a.min_ms
    → start_of a (take middle ps) ≡ start_of a (take high ps)
half_young a ps middle high p small risen past ordered within there is young =
    let whole : middle + (high - middle) ≡ high = omega arith in
    start_passed a ps middle (high - middle) (omega arith) (λ j from below.
    let same : p ≡ get_or ps middle no_point = is ∙ get_or_default ps middle p no_point there in
    omega (arith, young, ap (λ (q : Point). age_ms a.last q.ts) same, age_falls a.last (get_or ps middle no_point).ts (get_or ps j no_point).ts (risen middle j no_point (omega arith) from (omega arith)) (past j no_point (omega arith)) small))
    ∙ ap (λ (n : ℕ). start_of a (take n ps)) whole

-- the last point in front of the others
take_last : (ps : List Point) (count : ℕ) (p : Point) → 0 < count → count ≤ length ps → p ≡ get_or ps (count - 1) p → take count ps ≡ take (count - 1) ps ++ p ∷ []
take_last ps count p some within is =
    let next : count ≡ suc (count - 1) = omega arith in
    ap (λ (n : ℕ). take n ps) next ∙ (take-suc ps (count - 1) p (omega arith) ∙ ap (λ q. take (count - 1) ps ++ q ∷ []) (sym is))

rise_last : (a : Ask) (ps : List Point) (count : ℕ) (p : Point) → RiseIn 0 (2 ^ 62) 0 a.total ps → 0 < count → count ≤ length ps → p ≡ get_or ps (count - 1) p → RiseIn 0 (2 ^ 62) 0 a.total (take (count - 1) ps ++ p ∷ [])
rise_last a ps count p rise some within is =
    subst (λ (qs : List Point). RiseIn 0 (2 ^ 62) 0 a.total qs) (take_last ps count p some within is) (rise_take 0 (2 ^ 62) 0 a.total count ps rise)

pub last_before : (a : Ask) (ps : List Point) (count : ℕ) (p : Point) → RiseIn 0 (2 ^ 62) 0 a.total ps → 0 < count → count ≤ length ps → p ≡ get_or ps (count - 1) p → p.before ≤ a.total
last_before a ps count p rise some within is = (before_last 0 (2 ^ 62) 0 a.total (take (count - 1) ps) p (rise_last a ps count p rise some within is)).1

-- it leaves no room
pub last_full : (a : Ask) (ps : List Point) (count : ℕ) (p : Point) → RiseIn 0 (2 ^ 62) 0 a.total ps → 0 < count → count ≤ length ps → p ≡ get_or ps (count - 1) p → leaves_room a.room a.declared (shown a.total p) ≡ false
    → start_of a (take count ps) ≡ start_of a ps → MinUnmet ≡ start_of a ps
last_full a ps count p rise some within is full same =
    sym (ap (start_of a) (take_last ps count p some within is) ∙ start_full a 0 (2 ^ 62) 0 (take (count - 1) ps) p (rise_last a ps count p rise some within is) full) ∙ same

-- it leaves room, and is old enough
pub last_old : (a : Ask) (ps : List Point) (count : ℕ) (p : Point) → 0 < count → count ≤ length ps → p ≡ get_or ps (count - 1) p → leaves_room a.room a.declared (shown a.total p) ≡ true → a.min_ms ≤ age_ms a.last p.ts
    → start_of a (take count ps) ≡ start_of a ps → start_unless a.max_ms (age_ms a.last p.ts) p.n (a.total - p.before) ≡ start_of a ps
last_old a ps count p some within is fits old same =
    sym (ap (start_of a) (take_last ps count p some within is) ∙ start_old a (take (count - 1) ps) p fits old) ∙ same
