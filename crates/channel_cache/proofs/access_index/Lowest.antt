-- The points that are below all behind them: which they are when points come and go, and that the choice is among them.
use Rattle.std.proofs.Common.{◌≡◌, ℕ, zero, suc, ◌+◌, ◌-◌, ◌^◌, ◌<◌, ◌≤◌, Bool, true, false, ◌&&◌, nat_le, nat_lt, if◌then◌else◌, List, [], ◌∷◌, ◌++◌, length, get_or, take, drop, Option, None, Some, refl, sym, ◌∙◌, ap, subst, length-append, length-drop, get_or-drop, inl, inr, ◌⊎◌, append-nil, arith}
use Rattle.std.proofs.lemmas.Bool.{cases_lt, and_parts, ltb-true, leb-true, le-leb, lt-ltb}
use Rattle.std.proofs.lemmas.Bool.Decides.{nat_tests}
use Rattle.std.proofs.lemmas.List.{get_or_append_left, take_at}
use Rattle.std.proofs.lemmas.List.Elements.{filter-append}
use Rattle.rams_model.specs.Packets.{age_ms}
use Rattle.channel_cache.specs.declared.{access_index.point.Ask.Ask, access_index.point.Point.Point, access_index.lid.Lid.Lid}
use Rattle.channel_cache.specs.access_index.{AccessPoint, leaves_room, age_at, newest, start_at, choice_among, shown, RiseIn, above, roomy, start_of, choice_for, RiseLast, AreAtMost, are_over, lows_of, under, IsLid}
use Rattle.channel_cache.proofs.access_index.Choosing.{of_age, room_last}
use Rattle.channel_cache.proofs.access_index.Rising.{rise_wider}
use Rattle.channel_cache.proofs.access_index.Halving.{age_falls}

-- ---- a point comes
and_true : (b : Bool) → (b && true) ≡ b
and_true true = refl
and_true false = refl

and_more : (a b c d : Bool) → d ≡ (b && c) → (a && d) ≡ ((a && b) && c)
and_more true b c d is = is
and_more false b c d is = refl

over_more : (ts : ℕ) (ps : List Point) (p : Point) → are_over ts (ps ++ p ∷ []) ≡ (are_over ts ps && nat_lt ts p.ts)
unfolding are_over
over_more ts [] p = and_true (nat_lt ts p.ts)
over_more ts (q ∷ ps) p = and_more (nat_lt ts q.ts) (are_over ts ps) (nat_lt ts p.ts) (are_over ts (ps ++ p ∷ [])) (over_more ts ps p)

more_step : (q p : Point) (lows rest : List Point) (b c d : Bool) → d ≡ (b && c) → nat_lt q.ts p.ts ≡ c → rest ≡ under p.ts lows ++ p ∷ []
    → (if d then q ∷ rest else rest) ≡ under p.ts (if b then q ∷ lows else lows) ++ p ∷ []
more_step q p lows rest true true d both less is =
    ap (λ b. if b then q ∷ rest else rest) both ∙ (ap (λ rs. q ∷ rs) is ∙ sym (ap (λ b. (if b then q ∷ under p.ts lows else under p.ts lows) ++ p ∷ []) less))
more_step q p lows rest true false d both less is =
    ap (λ b. if b then q ∷ rest else rest) both ∙ (is ∙ sym (ap (λ b. (if b then q ∷ under p.ts lows else under p.ts lows) ++ p ∷ []) less))
more_step q p lows rest false c d both less is = ap (λ b. if b then q ∷ rest else rest) both ∙ is

pub lows_more : (ps : List Point) (p : Point) → lows_of (ps ++ p ∷ []) ≡ under p.ts (lows_of ps) ++ p ∷ []
unfolding lows_of are_over
lows_more [] p = refl
lows_more (q ∷ ps) p =
    more_step q p (lows_of ps) (lows_of (ps ++ p ∷ [])) (are_over q.ts ps) (nat_lt q.ts p.ts) (are_over q.ts (ps ++ p ∷ [])) (over_more q.ts ps p) refl (lows_more ps p)

-- no more of them than points
few_step : (q : Point) (lows ps : List Point) (b : Bool) → length lows ≤ length ps → length (if b then q ∷ lows else lows) ≤ suc (length ps)
few_step q lows ps true few = omega arith
few_step q lows ps false few = omega arith

pub lows_few : (ps : List Point) → length (lows_of ps) ≤ length ps
unfolding lows_of
lows_few [] = omega arith
lows_few (q ∷ ps) = few_step q (lows_of ps) ps (are_over q.ts ps) (lows_few ps)

-- ---- those at the back that are no less than a timestamp go
pub under_last : (ts : ℕ) (ps front : List Point) (p : Point) → ps ≡ front ++ p ∷ [] → ts ≤ p.ts → under ts front ≡ under ts ps
under_last ts ps front p is from =
    let out : nat_lt p.ts ts ≡ false = grind (arith, nat_tests) in
    sym (ap (under ts) is ∙ (filter-append (λ q. nat_lt q.ts ts) front (p ∷ []) ∙ (ap (λ b. under ts front ++ (if b then p ∷ [] else [])) out ∙ simp append-nil)))

under_step : (p : Point) (ps qs : List Point) (b : Bool) → b ≡ true → qs ≡ ps → (if b then p ∷ qs else qs) ≡ p ∷ ps
under_step p ps qs true is same = ap (λ rs. p ∷ rs) same
under_step p ps qs false is same = absurd cc

pub under_all : (ts : ℕ) (ps : List Point) → ((j : ℕ) (e : Point) → j < length ps → (get_or ps j e).ts < ts) → under ts ps ≡ ps
under_all ts [] less = refl
under_all ts (p ∷ ps) less =
    let first : p.ts < ts = less 0 p (omega arith) in
    under_step p ps (under ts ps) (nat_lt p.ts ts) (grind (arith, nat_tests)) (under_all ts ps (λ j e below. less (suc j) e (omega arith)))

-- where the timestamps rise, the last is the greatest
pub under_risen : (ts : ℕ) (ps : List Point) → RiseLast (length ps) ps → ((e : Point) → 0 < length ps → (get_or ps (length ps - 1) e).ts < ts) → under ts ps ≡ ps
under_risen ts ps risen less =
    under_all ts ps (λ j e below. omega (arith, risen j (length ps - 1) e (omega arith) (omega arith) (omega arith), less e (omega arith)))

-- ---- their order
rise_step : (lo hi least total : ℕ) (p : Point) (lows : List Point) (b : Bool) → (lo ≤ p.n) × (least ≤ p.before) → RiseIn (p.n + 1) hi p.before total lows → RiseIn lo hi least total (if b then p ∷ lows else lows)
rise_step lo hi least total p lows true from rise = (from, rise)
rise_step lo hi least total p lows false from rise =
    rise_wider (p.n + 1) hi p.before total lo hi least total lows (omega (arith, from.0)) (omega arith) from.1 (omega arith) rise

pub lows_rise : (lo hi least total : ℕ) (ps : List Point) → RiseIn lo hi least total ps → RiseIn lo hi least total (lows_of ps)
unfolding lows_of
lows_rise lo hi least total [] rise = rise
lows_rise lo hi least total (p ∷ ps) rise = rise_step lo hi least total p (lows_of ps) (are_over p.ts ps) rise.0 (lows_rise (p.n + 1) hi p.before total ps rise.1)

-- no timestamp among them is above one that none of the points is above
past_front : (last : ℕ) (p : Point) (lows : List Point) → p.ts ≤ last → AreAtMost last lows → (j : ℕ) (e : Point) → j < length (p ∷ lows) → (get_or (p ∷ lows) j e).ts ≤ last
past_front last p lows first past zero e below = first
past_front last p lows first past (suc j) e below = past j e (omega arith)

past_step : (last : ℕ) (p : Point) (lows : List Point) (b : Bool) → p.ts ≤ last → AreAtMost last lows → AreAtMost last (if b then p ∷ lows else lows)
past_step last p lows true first past = past_front last p lows first past
past_step last p lows false first past = past

past_rest : (last : ℕ) (p : Point) (ps : List Point) → AreAtMost last (p ∷ ps) → AreAtMost last ps
past_rest last p ps past = λ j e below. past (suc j) e (omega arith)

pub lows_past : (last : ℕ) (ps : List Point) → AreAtMost last ps → AreAtMost last (lows_of ps)
unfolding lows_of
lows_past last [] past = past
lows_past last (p ∷ ps) past = past_step last p (lows_of ps) (are_over p.ts ps) (past 0 p (omega arith)) (lows_past last ps (past_rest last p ps past))

-- what is above a timestamp is so in each place, also among them
over_and : (ts : ℕ) (p : Point) (b : Bool) → (nat_lt ts p.ts && b) ≡ true → (ts < p.ts) × (b ≡ true)
over_and ts p b both = let parts = and_parts (nat_lt ts p.ts) b both in (ltb-true ts p.ts parts.0, parts.1)

over_front : (ts : ℕ) (p : Point) (lows : List Point) → ts < p.ts → ((j : ℕ) (e : Point) → j < length lows → ts < (get_or lows j e).ts) → (j : ℕ) (e : Point) → j < length (p ∷ lows) → ts < (get_or (p ∷ lows) j e).ts
over_front ts p lows first rest zero e below = first
over_front ts p lows first rest (suc j) e below = rest j e (omega arith)

over_step : (ts : ℕ) (p : Point) (lows : List Point) (b : Bool) → ts < p.ts → ((j : ℕ) (e : Point) → j < length lows → ts < (get_or lows j e).ts) → (j : ℕ) (e : Point) → j < length (if b then p ∷ lows else lows)
    → ts < (get_or (if b then p ∷ lows else lows) j e).ts
over_step ts p lows true first rest = over_front ts p lows first rest
over_step ts p lows false first rest = rest

over_lows : (ts : ℕ) (ps : List Point) → are_over ts ps ≡ true → (j : ℕ) (e : Point) → j < length (lows_of ps) → ts < (get_or (lows_of ps) j e).ts
unfolding lows_of are_over
over_lows ts [] over = λ j e below. absurd (omega arith)
over_lows ts (p ∷ ps) over =
    let both = over_and ts p (are_over ts ps) over in over_step ts p (lows_of ps) (are_over p.ts ps) both.0 (over_lows ts ps both.1)

-- their timestamps rise
risen_front : (p : Point) (lows : List Point) → ((j : ℕ) (e : Point) → j < length lows → p.ts < (get_or lows j e).ts) → RiseLast (length lows) lows
    → (i j : ℕ) (e : Point) → i ≤ j → j < length (p ∷ lows) → (get_or (p ∷ lows) i e).ts ≤ (get_or (p ∷ lows) j e).ts
risen_front p lows over risen zero zero e ordered below = omega arith
risen_front p lows over risen zero (suc j) e ordered below = omega (arith, over j e (omega arith))
risen_front p lows over risen (suc i) zero e ordered below = absurd (omega arith)
risen_front p lows over risen (suc i) (suc j) e ordered below = risen i j e (omega arith) (omega arith) (omega arith)

risen_step : (p : Point) (ps lows : List Point) (b : Bool) → (b ≡ true → (j : ℕ) (e : Point) → j < length lows → p.ts < (get_or lows j e).ts) → RiseLast (length lows) lows
    → RiseLast (length (if b then p ∷ lows else lows)) (if b then p ∷ lows else lows)
risen_step p ps lows true over risen = λ i j e from ordered below. risen_front p lows (over refl) risen i j e ordered below
risen_step p ps lows false over risen = risen

pub lows_risen : (ps : List Point) → RiseLast (length (lows_of ps)) (lows_of ps)
unfolding lows_of
lows_risen [] = λ i j e from ordered below. absurd (omega arith)
lows_risen (p ∷ ps) = risen_step p ps (lows_of ps) (are_over p.ts ps) (over_lows p.ts ps) (lows_risen ps)

-- ---- the points in front go
above_none : (lo hi least total from : ℕ) (ps : List Point) → RiseIn lo hi least total ps → from ≤ lo → above from ps ≡ ps
above_none lo hi least total from [] rise low = refl
above_none lo hi least total from (p ∷ ps) rise low =
    let up : nat_lt p.n from ≡ false = (let is : from ≤ p.n = omega (arith, rise.0.0) in grind (arith, nat_tests)) in
    ap (λ b. if b then above from ps else p ∷ ps) up

above_step : (from : ℕ) (p : Point) (ps lows : List Point) (b c : Bool) → nat_lt p.n from ≡ b → lows_of (above from ps) ≡ above from lows → (b ≡ false → above from lows ≡ lows)
    → lows_of (p ∷ ps) ≡ (if c then p ∷ lows else lows) → lows_of (if b then above from ps else p ∷ ps) ≡ above from (if c then p ∷ lows else lows)
above_step from p ps lows true true below rest up is = rest ∙ sym (ap (λ b. if b then above from lows else p ∷ lows) below)
above_step from p ps lows true false below rest up is = rest
above_step from p ps lows false true below rest up is = is ∙ sym (ap (λ b. if b then above from lows else p ∷ lows) below)
above_step from p ps lows false false below rest up is = is ∙ sym (up refl)

pub lows_above : (lo hi least total from : ℕ) (ps : List Point) → RiseIn lo hi least total ps → lows_of (above from ps) ≡ above from (lows_of ps)
unfolding lows_of
lows_above lo hi least total from [] rise = refl
lows_above lo hi least total from (p ∷ ps) rise =
    above_step from p ps (lows_of ps) (nat_lt p.n from) (are_over p.ts ps) refl (lows_above (p.n + 1) hi p.before total from ps rise.1)
    (λ up. above_none (p.n + 1) hi p.before total from (lows_of ps) (lows_rise (p.n + 1) hi p.before total ps rise.1) (let is : from ≤ p.n = grind (arith, nat_tests) in omega arith)) refl

-- ---- the choice is among them
-- the point leaves room and is old enough
abbrev is_fit : Ask → Point → Bool
is_fit a p = leaves_room a.room a.declared (shown a.total p) && nat_le a.min_ms (age_at a.last (shown a.total p))

-- the newest that is fit
abbrev newest_fit : Ask → List Point → Option AccessPoint
newest_fit a ps = newest (of_age a.last a.min_ms (roomy a ps))

-- a newest, where there is one, or else a point
abbrev or_else : Option AccessPoint → AccessPoint → Option AccessPoint
or_else None p = Some p
or_else (Some q) p = Some q

newest_there : (p q : AccessPoint) (ps : List AccessPoint) → newest (q ∷ ps) ≡ or_else (newest (q ∷ ps)) p
newest_there p q [] = refl
newest_there p q (r ∷ ps) = newest_there p r ps

newest_cons : (p : AccessPoint) (ps : List AccessPoint) → newest (p ∷ ps) ≡ or_else (newest ps) p
newest_cons p [] = refl
newest_cons p (q ∷ ps) = newest_there p q ps

fit_step : (a : Ask) (p : Point) (ps : List Point) (b c : Bool) → leaves_room a.room a.declared (shown a.total p) ≡ b → nat_le a.min_ms (age_at a.last (shown a.total p)) ≡ c
    → newest_fit a (p ∷ ps) ≡ (if b && c then or_else (newest_fit a ps) (shown a.total p) else newest_fit a ps)
fit_step a p ps true true room old =
    ap (λ b. newest (of_age a.last a.min_ms (if b then shown a.total p ∷ roomy a ps else roomy a ps))) room
    ∙ (ap (λ b. newest (if b then shown a.total p ∷ of_age a.last a.min_ms (roomy a ps) else of_age a.last a.min_ms (roomy a ps))) old
    ∙ newest_cons (shown a.total p) (of_age a.last a.min_ms (roomy a ps)))
fit_step a p ps true false room old =
    ap (λ b. newest (of_age a.last a.min_ms (if b then shown a.total p ∷ roomy a ps else roomy a ps))) room
    ∙ ap (λ b. newest (if b then shown a.total p ∷ of_age a.last a.min_ms (roomy a ps) else of_age a.last a.min_ms (roomy a ps))) old
fit_step a p ps false c room old = ap (λ b. newest (of_age a.last a.min_ms (if b then shown a.total p ∷ roomy a ps else roomy a ps))) room

fit_cons : (a : Ask) (p : Point) (ps : List Point) → newest_fit a (p ∷ ps) ≡ (if is_fit a p then or_else (newest_fit a ps) (shown a.total p) else newest_fit a ps)
fit_cons a p ps = fit_step a p ps (leaves_room a.room a.declared (shown a.total p)) (nat_le a.min_ms (age_at a.last (shown a.total p))) refl refl

-- a point that leaves room and is older than one behind it
record IsFit (a : Ask) (p : Point) : Type 0 where
  room : a.total - p.before + a.declared ≤ a.room
  old : a.min_ms ≤ age_ms a.last p.ts

fit_is : (a : Ask) (p : Point) → is_fit a p ≡ true → IsFit a p
fit_is a p is =
    let parts = and_parts (leaves_room a.room a.declared (shown a.total p)) (nat_le a.min_ms (age_at a.last (shown a.total p))) is in
    record { room = leb-true _ _ parts.0; old = leb-true _ _ parts.1 }

is_then_fit : (a : Ask) (p : Point) → IsFit a p → is_fit a p ≡ true
is_then_fit a p f =
    let room : leaves_room a.room a.declared (shown a.total p) ≡ true = le-leb _ _ f.room in
    let old : nat_le a.min_ms (age_at a.last (shown a.total p)) ≡ true = le-leb _ _ f.old in
    ap (λ b. b && nat_le a.min_ms (age_at a.last (shown a.total p))) room ∙ old

-- where none of those behind a fit point is fit, they are above it
none_step : (a : Ask) (q : Point) (o : Option AccessPoint) (b : Bool) → is_fit a q ≡ b → (if b then or_else o (shown a.total q) else o) ≡ None → (b ≡ false) × (o ≡ None)
none_step a q None true fit none = absurd cc
none_step a q (Some x) true fit none = absurd cc
none_step a q o false fit none = (refl, none)

later_step : (a : Ask) (p q : Point) → a.last < 2 ^ 32 → IsFit a p → p.ts ≤ a.last → p.before ≤ q.before → is_fit a q ≡ false → (p.ts < q.ts) ⊎ (q.ts ≤ p.ts) → nat_lt p.ts q.ts ≡ true
later_step a p q small f past before not (inl later) = lt-ltb _ _ later
later_step a p q small f past before not (inr older) =
    let falls = age_falls a.last q.ts p.ts older past small in
    let fit = is_then_fit a q (record { room = omega (arith, f.room); old = omega (arith, f.old, falls) }) in absurd cc

none_over : (a : Ask) (hi lo least : ℕ) (p : Point) (ps : List Point) → a.last < 2 ^ 32 → IsFit a p → p.ts ≤ a.last → p.before ≤ least → RiseIn lo hi least a.total ps → newest_fit a ps ≡ None → are_over p.ts ps ≡ true
unfolding are_over
none_over a hi lo least p [] small f past before rise none = refl
none_over a hi lo least p (q ∷ ps) small f past before rise none =
    let step = none_step a q (newest_fit a ps) (is_fit a q) refl (sym (fit_cons a q ps) ∙ none) in
    let later = later_step a p q small f past (omega (arith, rise.0.1)) step.0 (cases_lt p.ts q.ts) in
    ap (λ b. b && are_over p.ts ps) later ∙ none_over a hi (q.n + 1) q.before p ps small f past (omega (arith, rise.0.1)) rise.1 step.1

newest_step : (a : Ask) (p : Point) (lows : List Point) (o : Option AccessPoint) (b c : Bool) → is_fit a p ≡ c → newest_fit a lows ≡ o → (c ≡ true → o ≡ None → b ≡ true)
    → newest_fit a (if b then p ∷ lows else lows) ≡ (if c then or_else o (shown a.total p) else o)
newest_step a p lows o true c fit same over =
    fit_cons a p lows ∙ (ap (λ b. if b then or_else (newest_fit a lows) (shown a.total p) else newest_fit a lows) fit ∙ ap (λ o. if c then or_else o (shown a.total p) else o) same)
newest_step a p lows o false false fit same over = same
newest_step a p lows None false true fit same over = absurd (let no : false ≡ true = over refl refl in cc)
newest_step a p lows (Some q) false true fit same over = same

lows_newest : (a : Ask) (lo hi least : ℕ) (ps : List Point) → a.last < 2 ^ 32 → RiseIn lo hi least a.total ps → AreAtMost a.last ps → newest_fit a (lows_of ps) ≡ newest_fit a ps
unfolding lows_of
lows_newest a lo hi least [] small rise past = refl
lows_newest a lo hi least (p ∷ ps) small rise past =
    newest_step a p (lows_of ps) (newest_fit a ps) (are_over p.ts ps) (is_fit a p) refl (lows_newest a (p.n + 1) hi p.before ps small rise.1 (past_rest a.last p ps past))
    (λ fit none. none_over a hi (p.n + 1) p.before p ps small (fit_is a p fit) (past 0 p (omega arith)) (omega arith) rise.1 none)
    ∙ sym (fit_cons a p ps)

pub lows_start : (a : Ask) (ps : List Point) → a.last < 2 ^ 32 → RiseIn 0 (2 ^ 62) 0 a.total ps → AreAtMost a.last ps → start_of a (lows_of ps) ≡ start_of a ps
lows_start a ps small rise past = ap (start_at a.last a.max_ms) (lows_newest a 0 (2 ^ 62) 0 ps small rise past)

-- ---- of a row
-- without the last they rise still
pub risen_without : (ps front : List Point) (p : Point) → ps ≡ front ++ p ∷ [] → RiseLast (length ps) ps → RiseLast (length front) front
risen_without ps front p is risen = λ i j e from ordered below.
    let all : RiseLast (length (front ++ p ∷ [])) (front ++ p ∷ []) = subst (λ (qs : List Point). RiseLast (length qs) qs) is risen in
    subst (λ (q : Point). q.ts ≤ (get_or front j e).ts) (get_or_append_left front (p ∷ []) e i (omega arith))
    (subst (λ (q : Point). (get_or (front ++ p ∷ []) i e).ts ≤ q.ts) (get_or_append_left front (p ∷ []) e j below) (all i j e (omega (arith, length-append front (p ∷ []))) ordered (omega (arith, length-append front (p ∷ [])))))

-- the last goes
pub without_last : (ps front : List Point) (p : Point) (n : ℕ) → ps ≡ front ++ p ∷ [] → n ≡ length ps → take (n - 1) ps ≡ front
without_last ps front p n is all = ap (take (n - 1)) is ∙ take_at front (p ∷ []) (n - 1) (omega (arith, all, ap length is, length-append front (p ∷ [])))

-- where the newest leaves room, there is a choice
choice_some : (a : Ask) (qs : List AccessPoint) (q : AccessPoint) → choice_among a.last a.min_ms a.max_ms (qs ++ q ∷ []) ≡ start_at a.last a.max_ms (newest (of_age a.last a.min_ms (qs ++ q ∷ [])))
choice_some a [] q = refl
choice_some a (r ∷ qs) q = refl

pub choice_start : (a : Ask) (ps front : List Point) (p : Point) → ps ≡ front ++ p ∷ [] → leaves_room a.room a.declared (shown a.total p) ≡ true → start_of a ps ≡ choice_for a ps
choice_start a ps front p is fits =
    let all = ap (roomy a) is ∙ room_last a front p true fits in
    ap (λ qs. start_at a.last a.max_ms (newest (of_age a.last a.min_ms qs))) all
    ∙ (sym (choice_some a (roomy a front) (shown a.total p)) ∙ ap (choice_among a.last a.min_ms a.max_ms) (sym all))

-- the first point goes from under a lid
pub lid_rest : (lid : Lid) (ps : List Point) → IsLid lid ps → IsLid lid (drop 1 ps)
lid_rest lid ps is = λ j e from below.
    subst (λ (q : Point). q.ts ≤ lid.most) (sym (get_or-drop 1 ps j e)) (is (1 + j) e (omega (arith, length-drop 1 ps)) (omega (arith, length-drop 1 ps)))
