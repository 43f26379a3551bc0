-- The points as an index keeps them, when packets come and when marks go.
use Rattle.std.proofs.Common.{◌≡◌, ℕ, ◌+◌, ◌-◌, ◌<◌, ◌≤◌, min, max, Bool, true, false, ◌==◌, nat_lt, nat_le, if◌then◌else◌, List, [], ◌∷◌, ◌++◌, length, map, filter, refl, sym, ◌∙◌, ap, subst, append-nil, arith}
use Rattle.std.proofs.lemmas.Bool.Decides.{nat_tests}
use Rattle.channel_cache.specs.declared.access_index.point.Point.{Point}
use Rattle.channel_cache.specs.access_index.{AccessPoint, more_behind, shown, RiseIn, above}

-- ---- points that rise
pub rise_numbers : (lo hi least total : ℕ) (ps : List Point) → RiseIn lo hi least total ps → lo ≤ hi
rise_numbers lo hi least total [] rise = rise.0
rise_numbers lo hi least total (p ∷ ps) rise = omega (arith, rise.0.0, rise_numbers (p.n + 1) hi p.before total ps rise.1)

pub rise_bytes : (lo hi least total : ℕ) (ps : List Point) → RiseIn lo hi least total ps → least ≤ total
rise_bytes lo hi least total [] rise = rise.1
rise_bytes lo hi least total (p ∷ ps) rise = omega (arith, rise.0.1, rise_bytes (p.n + 1) hi p.before total ps rise.1)

-- no more of them than numbers
pub rise-length : (lo hi least total : ℕ) (ps : List Point) → RiseIn lo hi least total ps → lo + length ps ≤ hi
rise-length lo hi least total [] rise = omega (arith, rise.0)
rise-length lo hi least total (p ∷ ps) rise = omega (arith, rise.0.0, rise-length (p.n + 1) hi p.before total ps rise.1)

pub rise_wider : (lo hi least total lo' hi' least' total' : ℕ) (ps : List Point) → lo' ≤ lo → hi ≤ hi' → least' ≤ least → total ≤ total' → RiseIn lo hi least total ps → RiseIn lo' hi' least' total' ps
rise_wider lo hi least total lo' hi' least' total' [] a b c d rise = (omega (arith, rise.0), omega (arith, rise.1))
rise_wider lo hi least total lo' hi' least' total' (p ∷ ps) a b c d rise =
    ((omega (arith, rise.0.0), omega (arith, rise.0.1)), rise_wider (p.n + 1) hi p.before total (p.n + 1) hi' p.before total' ps (omega arith) b (omega arith) d rise.1)

-- one more behind them
pub rise_append : (lo hi least total hi' total' : ℕ) (ps : List Point) (p : Point) → hi ≤ p.n → total ≤ p.before → p.n < hi' → p.before ≤ total' → RiseIn lo hi least total ps → RiseIn lo hi' least total' (ps ++ p ∷ [])
rise_append lo hi least total hi' total' [] p a b c d rise = ((omega (arith, rise.0), omega (arith, rise.1)), (omega arith, d))
rise_append lo hi least total hi' total' (q ∷ ps) p a b c d rise = (rise.0, rise_append (q.n + 1) hi q.before total hi' total' ps p a b c d rise.1)

-- ---- a packet comes
-- more bytes behind each
pub shown_more : (lo hi least total wire : ℕ) (ps : List Point) → RiseIn lo hi least total ps → map (shown (total + wire)) ps ≡ map (more_behind wire) (map (shown total) ps)
shown_more lo hi least total wire [] rise = refl
shown_more lo hi least total wire (p ∷ ps) rise =
    let within : p.before ≤ total = rise_bytes (p.n + 1) hi p.before total ps rise.1 in
    let same : total + wire - p.before ≡ total - p.before + wire = omega arith in
    let point : shown (total + wire) p ≡ more_behind wire (shown total p) = ap (λ (b : ℕ). record { n = p.n; ts = p.ts; behind = b }) same in
    ap (λ q. q ∷ map (shown (total + wire)) ps) point ∙ ap (λ qs. more_behind wire (shown total p) ∷ qs) (shown_more (p.n + 1) hi p.before total wire ps rise.1)

-- ---- marks go
pub kept_step : (p : AccessPoint) (ps qs : List AccessPoint) (b : Bool) → b ≡ true → qs ≡ ps → (if b then p ∷ qs else qs) ≡ p ∷ ps
kept_step p ps qs true is same = ap (λ rs. p ∷ rs) same
kept_step p ps qs false is same = absurd cc

pub none_below : (lo hi least total from : ℕ) (ps : List Point) → RiseIn lo hi least total ps → from ≤ lo → filter (λ p. nat_le from p.n) (map (shown total) ps) ≡ map (shown total) ps
none_below lo hi least total from [] rise low = refl
none_below lo hi least total from (p ∷ ps) rise low =
    kept_step (shown total p) (map (shown total) ps) (filter (λ q. nat_le from q.n) (map (shown total) ps)) (nat_le from p.n) (let up : from ≤ p.n = omega (arith, rise.0.0) in grind (arith, nat_tests))
    (none_below (p.n + 1) hi p.before total from ps rise.1 (omega (arith, rise.0.0)))

pub above_step : (lo hi least total from : ℕ) (p : Point) (ps : List Point) (b c : Bool) → nat_lt p.n from ≡ b → nat_le from p.n ≡ c → RiseIn lo hi least total (p ∷ ps)
    → map (shown total) (above from ps) ≡ filter (λ q. nat_le from q.n) (map (shown total) ps)
    → map (shown total) (if b then above from ps else p ∷ ps) ≡ (if c then shown total p ∷ filter (λ q. nat_le from q.n) (map (shown total) ps) else filter (λ q. nat_le from q.n) (map (shown total) ps))
above_step lo hi least total from p ps true true below up rise rest = absurd (grind (arith, nat_tests))
above_step lo hi least total from p ps true false below not rise rest = rest
above_step lo hi least total from p ps false true not up rise rest =
    let high : from ≤ p.n = grind (arith, nat_tests) in
    ap (λ qs. shown total p ∷ qs) (sym (none_below (p.n + 1) hi p.before total from ps rise.1 (omega arith)))
above_step lo hi least total from p ps false false not below rise rest = absurd (grind (arith, nat_tests))

-- the points that stay are those from the number on
pub shown_above : (lo hi least total from : ℕ) (ps : List Point) → RiseIn lo hi least total ps → map (shown total) (above from ps) ≡ filter (λ p. nat_le from p.n) (map (shown total) ps)
shown_above lo hi least total from [] rise = refl
shown_above lo hi least total from (p ∷ ps) rise =
    above_step lo hi least total from p ps (nat_lt p.n from) (nat_le from p.n) refl refl rise (shown_above (p.n + 1) hi p.before total from ps rise.1)

pub rise_step : (lo hi least total from : ℕ) (p : Point) (ps : List Point) (b : Bool) → nat_lt p.n from ≡ b → RiseIn lo hi least total (p ∷ ps)
    → RiseIn (min (max (p.n + 1) from) hi) hi p.before total (above from ps) → RiseIn (min (max lo from) hi) hi least total (if b then above from ps else p ∷ ps)
rise_step lo hi least total from p ps true below rise rest =
    let low : p.n < from = grind (arith, nat_tests) in
    rise_wider (min (max (p.n + 1) from) hi) hi p.before total (min (max lo from) hi) hi least total (above from ps) (omega (arith, rise.0.0)) (omega arith) rise.0.1 (omega arith) rest
rise_step lo hi least total from p ps false above rise rest =
    let up : from ≤ p.n = grind (arith, nat_tests) in ((omega (arith, rise.0.0), rise.0.1), rise.1)

pub rise_above : (lo hi least total from : ℕ) (ps : List Point) → RiseIn lo hi least total ps → RiseIn (min (max lo from) hi) hi least total (above from ps)
rise_above lo hi least total from [] rise = (omega arith, rise.1)
rise_above lo hi least total from (p ∷ ps) rise = rise_step lo hi least total from p ps (nat_lt p.n from) refl rise (rise_above (p.n + 1) hi p.before total from ps rise.1)

-- the packet itself, where it is an access point
abbrev pub own : Bool → ℕ → ℕ → ℕ → List Point
own access n ts before = if access then record { n = n; ts = ts; before = before } ∷ [] else []

pub shown_own : (b : Bool) (n ts total wire : ℕ) → map (shown (total + wire)) (own b n ts total) ≡ (if b then record { n = n; ts = ts; behind = wire } ∷ [] else [])
shown_own true n ts total wire = let same : total + wire - total ≡ wire = omega arith in ap (λ (m : ℕ). record { n = n; ts = ts; behind = m } ∷ []) same
shown_own false n ts total wire = refl

-- the points rise still
pub rise_own : (lo hi total n ts wire : ℕ) (b : Bool) (ps : List Point) → RiseIn lo hi 0 total ps → hi ≤ n → RiseIn lo (n + 1) 0 (total + wire) (ps ++ own b n ts total)
rise_own lo hi total n ts wire true ps rise next = rise_append lo hi 0 total (n + 1) (total + wire) ps (record { n = n; ts = ts; before = total }) next (omega arith) (omega arith) (omega arith) rise
rise_own lo hi total n ts wire false ps rise next = subst (λ (qs : List Point). RiseIn lo (n + 1) 0 (total + wire) qs) (sym (append-nil ps)) (rise_wider lo hi 0 total lo (n + 1) 0 (total + wire) ps (omega arith) (omega arith) (omega arith) (omega arith) rise)

-- an empty interval begins anew
pub rise_start : (lo hi total n ts wire : ℕ) (access b : Bool) (ps : List Point) → (lo == hi) ≡ b → RiseIn lo hi 0 total ps → (lo < hi → n ≡ hi) → RiseIn (if b then n else lo) (n + 1) 0 (total + wire) (ps ++ own access n ts total)
rise_start lo hi total n ts wire access true [] none rise next = rise_own n n total n ts wire access [] (omega arith, rise.1) (omega arith)
rise_start lo hi total n ts wire access true (p ∷ ps) none rise next =
    let same : lo ≡ hi = grind (arith, nat_tests) in absurd (omega (arith, rise-length lo hi 0 total (p ∷ ps) rise))
rise_start lo hi total n ts wire access false ps some rise next =
    let apart : lo < hi = grind (arith, nat_tests, rise_numbers lo hi 0 total ps rise) in rise_own lo hi total n ts wire access ps rise (omega (arith, next apart))

pub rise_pushed : (lo hi total n ts wire lo' total' : ℕ) (access : Bool) (ps ps' : List Point) → RiseIn lo hi 0 total ps → (lo < hi → n ≡ hi) → lo' ≡ (if lo == hi then n else lo) → total' ≡ total + wire → ps' ≡ ps ++ own access n ts total
    → RiseIn lo' (n + 1) 0 total' ps'
rise_pushed lo hi total n ts wire lo' total' access ps ps' rise next is_lo is_total is_points =
    subst (λ (m : ℕ). RiseIn m (n + 1) 0 total' ps') (sym is_lo)
    (subst (λ (m : ℕ). RiseIn (if lo == hi then n else lo) (n + 1) 0 m ps') (sym is_total)
    (subst (λ (qs : List Point). RiseIn (if lo == hi then n else lo) (n + 1) 0 (total + wire) qs) (sym is_points)
    (rise_start lo hi total n ts wire access (lo == hi) ps refl rise next)))
