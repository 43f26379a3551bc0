-- Timestamps as they are counted from an edge: their ages are the same, and so is the choice.
use Rattle.std.proofs.Common.{◌≡◌, ℕ, ◌+◌, ◌-◌, ◌/◌, ◌%◌, ◌^◌, ◌<◌, min, max, Bool, true, false, ◌==◌, nat_le, nat_lt, if◌then◌else◌, List, [], ◌∷◌, ◌++◌, map, filter, Option, All, refl, sym, ◌∙◌, ap, arith}
use Rattle.std.proofs.lemmas.Bool.Decides.{nat_tests}
use Rattle.std.proofs.lemmas.List.{map-append}
use Rattle.std.proofs.lemmas.List.Elements.{All-nil, All-cons, All-append, All-map, All-filter, All-tail}
use Rattle.rams_model.specs.Packets.{age_ms}
use Rattle.channel_cache.specs.declared.access_index.point.Point.{Point}
use Rattle.channel_cache.specs.access_index.{AccessPoint, more_behind, pushed, left_from, leaves_room, age_at, newest, start_unless, start_at, choice_among, shown, since, timed, seen_of, AreTimes, RiseIn, above}
use Rattle.channel_cache.proofs.access_index.Rising.{own, rise-length, shown_more, shown_own, shown_above}

-- ---- one timestamp
pub since_small : (edge ts : ℕ) → since edge ts < 2 ^ 32
since_small edge ts = omega arith

pub time_back : (edge ts : ℕ) → edge < 2 ^ 32 → ts < 2 ^ 32 → (since edge ts + edge) % 2 ^ 32 ≡ ts
time_back edge ts small_edge small = omega arith

ticks_same : (edge last ts : ℕ) → edge < 2 ^ 32 → last < 2 ^ 32 → ts < 2 ^ 32 → (last + 2 ^ 32 - (ts + edge) % 2 ^ 32) % 2 ^ 32 ≡ (since edge last + 2 ^ 32 - ts) % 2 ^ 32
ticks_same edge last ts small_edge small_last small = omega arith

age_same : (edge last ts : ℕ) → edge < 2 ^ 32 → last < 2 ^ 32 → ts < 2 ^ 32 → age_ms last ((ts + edge) % 2 ^ 32) ≡ age_ms (since edge last) ts
age_same edge last ts small_edge small_last small = ap (λ (n : ℕ). n / 90) (ticks_same edge last ts small_edge small_last small)

-- ---- each has 32 bits still
pub times_shown : (total : ℕ) (ps : List Point) → AreTimes ps → All (λ (q : AccessPoint). q.ts < 2 ^ 32) (map (shown total) ps)
times_shown total ps times = All-map (λ (q : AccessPoint). q.ts < 2 ^ 32) (shown total) ps times

above_step : (lo : ℕ) (p : Point) (ps : List Point) (b : Bool) → AreTimes (p ∷ ps) → AreTimes (above lo ps) → AreTimes (if b then above lo ps else p ∷ ps)
above_step lo p ps true times rest = rest
above_step lo p ps false times rest = times

times_step : (n ts total : ℕ) (b : Bool) → ts < 2 ^ 32 → AreTimes (own b n ts total)
times_step n ts total true small = All-cons (λ (q : Point). q.ts < 2 ^ 32) (record { n = n; ts = ts; before = total }) [] small (All-nil (λ (q : Point). q.ts < 2 ^ 32))
times_step n ts total false small = All-nil (λ (q : Point). q.ts < 2 ^ 32)

pub times_own : (n ts total : ℕ) (b : Bool) (ps : List Point) → ts < 2 ^ 32 → AreTimes ps → AreTimes (ps ++ own b n ts total)
times_own n ts total b ps small times = All-append (λ (q : Point). q.ts < 2 ^ 32) ps (own b n ts total) times (times_step n ts total b small)

pub times_above : (lo : ℕ) (ps : List Point) → AreTimes ps → AreTimes (above lo ps)
times_above lo [] times = times
times_above lo (p ∷ ps) times = above_step lo p ps (nat_lt p.n lo) times (times_above lo ps (All-tail (λ (q : Point). q.ts < 2 ^ 32) p ps times))

-- ---- what is shown with its timestamp
pub timed_more : (edge wire : ℕ) (qs : List AccessPoint) → map (timed edge) (map (more_behind wire) qs) ≡ map (more_behind wire) (map (timed edge) qs)
timed_more edge wire [] = refl
timed_more edge wire (q ∷ qs) = ap (λ rs. more_behind wire (timed edge q) ∷ rs) (timed_more edge wire qs)

timed_step : (edge : ℕ) (q : AccessPoint) (ps qs : List AccessPoint) (b c : Bool) → b ≡ c → ps ≡ map (timed edge) qs → (if b then timed edge q ∷ ps else ps) ≡ map (timed edge) (if c then q ∷ qs else qs)
timed_step edge q ps qs true true both same = ap (λ rs. timed edge q ∷ rs) same
timed_step edge q ps qs false false both same = same
timed_step edge q ps qs true false both same = absurd cc
timed_step edge q ps qs false true both same = absurd cc

-- what a test keeps, where it says the same of both
pub timed_filter : (edge : ℕ) (test before : AccessPoint → Bool) (qs : List AccessPoint) → All (λ q. q.ts < 2 ^ 32) qs → ((q : AccessPoint) → q.ts < 2 ^ 32 → test (timed edge q) ≡ before q)
    → filter test (map (timed edge) qs) ≡ map (timed edge) (filter before qs)
timed_filter edge test before [] times same = refl
timed_filter edge test before (q ∷ qs) times same =
    timed_step edge q (filter test (map (timed edge) qs)) (filter before qs) (test (timed edge q)) (before q) (same q (times 0 q (omega arith)))
    (timed_filter edge test before qs (All-tail (λ (r : AccessPoint). r.ts < 2 ^ 32) q qs times) same)

-- where no point is kept, any edge will do
pub edge_same : (lo hi total edge edge' : ℕ) (b : Bool) (ps : List Point) → (lo == hi) ≡ b → RiseIn lo hi 0 total ps → (b ≡ false → edge' ≡ edge) → map (timed edge') (map (shown total) ps) ≡ map (timed edge) (map (shown total) ps)
edge_same lo hi total edge edge' true [] none rise same = refl
edge_same lo hi total edge edge' true (p ∷ ps) none rise same =
    let both : lo ≡ hi = grind (arith, nat_tests) in absurd (omega (arith, rise-length lo hi 0 total (p ∷ ps) rise))
edge_same lo hi total edge edge' false ps some rise same = ap (λ (e : ℕ). map (timed e) (map (shown total) ps)) (same refl)

-- ---- the choice
start_timed : (edge last : ℕ) (most : Option ℕ) (qs : List AccessPoint) → edge < 2 ^ 32 → last < 2 ^ 32 → All (λ q. q.ts < 2 ^ 32) qs
    → start_at (since edge last) most (newest qs) ≡ start_at last most (newest (map (timed edge) qs))
start_timed edge last most [] small_edge small_last times = refl
start_timed edge last most (q ∷ []) small_edge small_last times =
    ap (λ (age : ℕ). start_unless most age q.n q.behind) (sym (age_same edge last q.ts small_edge small_last (times 0 q (omega arith))))
start_timed edge last most (q ∷ r ∷ qs) small_edge small_last times = start_timed edge last most (r ∷ qs) small_edge small_last (All-tail (λ (s : AccessPoint). s.ts < 2 ^ 32) q (r ∷ qs) times)

among_timed : (edge last least : ℕ) (most : Option ℕ) (qs : List AccessPoint) → edge < 2 ^ 32 → last < 2 ^ 32 → All (λ q. q.ts < 2 ^ 32) qs
    → choice_among (since edge last) least most qs ≡ choice_among last least most (map (timed edge) qs)
among_timed edge last least most [] small_edge small_last times = refl
among_timed edge last least most (q ∷ qs) small_edge small_last times =
    let old = filter (λ r. nat_le least (age_at (since edge last) r)) (q ∷ qs) in
    start_timed edge last most old small_edge small_last (All-filter (λ r. nat_le least (age_at (since edge last) r)) (λ (r : AccessPoint). r.ts < 2 ^ 32) (q ∷ qs) times)
    ∙ ap (λ rs. start_at last most (newest rs))
    (sym (timed_filter edge (λ r. nat_le least (age_at last r)) (λ r. nat_le least (age_at (since edge last) r)) (q ∷ qs) times (λ r small. ap (nat_le least) (age_same edge last r.ts small_edge small_last small))))

pub choice_timed : (edge last room declared least : ℕ) (most : Option ℕ) (qs : List AccessPoint) → edge < 2 ^ 32 → last < 2 ^ 32 → All (λ q. q.ts < 2 ^ 32) qs
    → choice_among (since edge last) least most (filter (leaves_room room declared) qs) ≡ choice_among last least most (filter (leaves_room room declared) (map (timed edge) qs))
choice_timed edge last room declared least most qs small_edge small_last times =
    among_timed edge last least most (filter (leaves_room room declared) qs) small_edge small_last (All-filter (leaves_room room declared) (λ (q : AccessPoint). q.ts < 2 ^ 32) qs times)
    ∙ ap (choice_among last least most) (sym (timed_filter edge (leaves_room room declared) (leaves_room room declared) qs times (λ q small. refl)))

-- ---- what is shown once a packet has come
own_step : (edge n ts wire : ℕ) (b : Bool) → edge < 2 ^ 32 → ts < 2 ^ 32 → map (timed edge) (if b then record { n = n; ts = since edge ts; behind = wire } ∷ [] else []) ≡ (if b then record { n = n; ts = ts; behind = wire } ∷ [] else [])
own_step edge n ts wire true small_edge small = ap (λ (t : ℕ). record { n = n; ts = t; behind = wire } ∷ []) (time_back edge ts small_edge small)
own_step edge n ts wire false small_edge small = refl

timed_own : (edge n ts total wire : ℕ) (b : Bool) → edge < 2 ^ 32 → ts < 2 ^ 32 → map (timed edge) (map (shown (total + wire)) (own b n (since edge ts) total)) ≡ (if b then record { n = n; ts = ts; behind = wire } ∷ [] else [])
timed_own edge n ts total wire b small_edge small = ap (map (timed edge)) (shown_own b n (since edge ts) total wire) ∙ own_step edge n ts wire b small_edge small

pub pushed_is : (edge edge' capacity lo hi last total n ts wire lo' total' : ℕ) (access : Bool) (ps ps' : List Point) → edge' < 2 ^ 32 → ts < 2 ^ 32 → RiseIn lo hi 0 total ps → ((lo == hi) ≡ false → edge' ≡ edge)
    → lo' ≡ (if lo == hi then n else lo) → total' ≡ total + wire → ps' ≡ ps ++ own access n (since edge' ts) total
    → seen_of edge' capacity lo' (n + 1) ts total' ps' ≡ pushed (seen_of edge capacity lo hi last total ps) n ts wire access
pushed_is edge edge' capacity lo hi last total n ts wire lo' total' access ps ps' small_edge small rise same is_lo is_total is_points =
    let before = map (shown (total + wire)) ps in
    let itself = own access n (since edge' ts) total in
    let others = ap (map (timed edge')) (shown_more lo hi 0 total wire ps rise)
    ∙ (timed_more edge' wire (map (shown total) ps) ∙ ap (map (more_behind wire)) (edge_same lo hi total edge edge' (lo == hi) ps refl rise same)) in
    let shows = ap (map (timed edge')) (map-append (shown (total + wire)) ps itself)
    ∙ (map-append (timed edge') before (map (shown (total + wire)) itself)
    ∙ (ap (λ qs. map (timed edge') before ++ qs) (timed_own edge' n ts total wire access small_edge small)
    ∙ ap (λ qs. qs ++ (if access then record { n = n; ts = ts; behind = wire } ∷ [] else [])) others)) in
    ap (λ (m : ℕ). seen_of edge' capacity m (n + 1) ts total' ps') is_lo
    ∙ (ap (λ (m : ℕ). seen_of edge' capacity (if lo == hi then n else lo) (n + 1) ts m ps') is_total
    ∙ ap (λ qs. record { capacity = capacity; lo = if lo == hi then n else lo; hi = n + 1; last = ts; total = total + wire; points = qs }) (ap (λ qs. map (timed edge') (map (shown (total + wire)) qs)) is_points ∙ shows))

-- ---- and once the first marks have gone
pub left_is : (edge capacity lo hi last total from lo' : ℕ) (ps ps' : List Point) → AreTimes ps → RiseIn lo hi 0 total ps → lo' ≡ min (max lo from) hi → ps' ≡ above from ps
    → seen_of edge capacity lo' hi last total ps' ≡ left_from (seen_of edge capacity lo hi last total ps) from
left_is edge capacity lo hi last total from lo' ps ps' times rise is_lo is_points =
    ap (λ (n : ℕ). seen_of edge capacity n hi last total ps') is_lo
    ∙ ap (λ qs. record { capacity = capacity; lo = min (max lo from) hi; hi = hi; last = last; total = total; points = qs })
    (ap (λ qs. map (timed edge) (map (shown total) qs)) is_points
    ∙ (ap (map (timed edge)) (shown_above lo hi 0 total from ps rise)
    ∙ sym (timed_filter edge (λ p. nat_le from p.n) (λ p. nat_le from p.n) (map (shown total) ps) (times_shown total ps times) (λ q small. refl))))
